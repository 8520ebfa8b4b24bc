use Rattle.std.proofs.Common.{List, ap, ◌∙◌, ◌||◌}
use Rattle.cd_base.specs.declared.place.Range.{Range}
use Rattle.cd_base.specs.Words.{in_range, in_ranges}
use Rattle.cd_base.specs.Places.{with_range}
use Rattle.cd_base.proofs.RangeLemmas.{in_ranges-with_range, IsOrdered-new, length-new}
use Rattle.cd_base.proofs.places.Places.add.Goals as goal

pub invariant_of-self : goal.invariant_of-self
invariant_of-self c =
    let old = c.self.inside.ranges.items in
    let new = c.in_ok-ranges.ensures ∙ ap (with_range c.args.range) c.deref.ensures.value in
    IsOrdered-new c.args.range old _ new c.requires c.self.invariant

pub returns-clause-places : goal.returns-clause-places
returns-clause-places c q =
    let old = c.self.inside.ranges.items in
    let new = c.in_ok-ranges.ensures ∙ ap (with_range c.args.range) c.deref.ensures.value in
    ap (λ (l : List Range). in_ranges l q) new ∙ in_ranges-with_range c.args.range old q c.requires c.self.invariant
    ∙ ap (λ (l : List Range). in_range c.args.range q || in_ranges l q) c.self.view_is

pub returns-clause-few : goal.returns-clause-few
returns-clause-few c =
    let old = c.self.inside.ranges.items in
    let new = c.in_ok-ranges.ensures ∙ ap (with_range c.args.range) c.deref.ensures.value in
    length-new c.args.range old c.args.self.now _ new c.self.view_is
