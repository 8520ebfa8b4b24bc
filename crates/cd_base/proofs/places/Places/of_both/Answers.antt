use Rattle.std.proofs.Common.{List, length, ap, ◌∙◌, ◌||◌, arith}
use Rattle.cd_base.specs.declared.place.Range.{Range}
use Rattle.cd_base.specs.Words.{in_ranges}
use Rattle.cd_base.proofs.UnionLemmas.{in_ranges-united, IsOrdered-united, length-united, both_views}
use Rattle.cd_base.proofs.places.Places.of_both.Goals as goal

pub invariant_of-result : goal.invariant_of-result
invariant_of-result c =
    let rs = c.first.inside.ranges.items in
    let ss = c.second.inside.ranges.items in
    let new = c.in_ok-ranges.ensures ∙ both_views _ rs _ ss c.deref.ensures.value c.deref-2.ensures.value in
    IsOrdered-united rs ss c.in_ok-ranges.ranges.items new c.first.invariant c.second.invariant

pub returns-clause-places : goal.returns-clause-places
returns-clause-places c q =
    let rs = c.first.inside.ranges.items in
    let ss = c.second.inside.ranges.items in
    let new = c.in_ok-ranges.ensures ∙ both_views _ rs _ ss c.deref.ensures.value c.deref-2.ensures.value in
    in_ranges-united rs ss c.in_ok-ranges.ranges.items q new c.first.invariant c.second.invariant
    ∙ ap (λ (l : List Range). in_ranges l q || in_ranges ss q) c.first.view_is ∙ ap (λ (l : List Range). in_ranges c.args.first.now q || in_ranges l q) c.second.view_is

pub returns-clause-few : goal.returns-clause-few
returns-clause-few c =
    let rs = c.first.inside.ranges.items in
    let ss = c.second.inside.ranges.items in
    let new = c.in_ok-ranges.ensures ∙ both_views _ rs _ ss c.deref.ensures.value c.deref-2.ensures.value in
    omega (arith, length-united rs ss c.in_ok-ranges.ranges.items new, ap length c.first.view_is, ap length c.second.view_is)
