use Rattle.std.proofs.Common.{List, length, ap, ◌∙◌, ◌||◌, arith}
use Rattle.cd_base.specs.declared.place.Range.{Range}
use Rattle.cd_base.specs.Words.{in_ranges}
use Rattle.cd_base.proofs.UnionLemmas.{in_ranges-united, IsOrdered-united, length-united, both_views}
use Rattle.cd_base.proofs.places.Places.union.Goals as goal

pub invariant_of-self : goal.invariant_of-self
invariant_of-self c =
    let rs = c.self.inside.ranges.items in
    let ss = c.other.inside.ranges.items in
    let new = c.in_ok-ranges.ensures ∙ both_views _ rs _ ss c.deref.ensures.value c.deref-2.ensures.value in
    IsOrdered-united rs ss c.in_ok-ranges.ranges.items new c.self.invariant c.other.invariant

pub returns-clause-places : goal.returns-clause-places
returns-clause-places c q =
    let rs = c.self.inside.ranges.items in
    let ss = c.other.inside.ranges.items in
    let new = c.in_ok-ranges.ensures ∙ both_views _ rs _ ss c.deref.ensures.value c.deref-2.ensures.value in
    in_ranges-united rs ss c.in_ok-ranges.ranges.items q new c.self.invariant c.other.invariant
    ∙ ap (λ (l : List Range). in_ranges l q || in_ranges ss q) c.self.view_is ∙ ap (λ (l : List Range). in_ranges c.args.self.now q || in_ranges l q) c.other.view_is

pub returns-clause-few : goal.returns-clause-few
returns-clause-few c =
    let rs = c.self.inside.ranges.items in
    let ss = c.other.inside.ranges.items in
    let new = c.in_ok-ranges.ensures ∙ both_views _ rs _ ss c.deref.ensures.value c.deref-2.ensures.value in
    omega (arith, length-united rs ss c.in_ok-ranges.ranges.items new, ap length c.self.view_is, ap length c.other.view_is)
