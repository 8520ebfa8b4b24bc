use Rattle.std.proofs.Common.{rules}
use Rattle.std.proofs.lemmas.List.Sorted.{answers_always}
use Rattle.cd_base.proofs.SortLemmas.{begin_of, in_order, IsOrdered-sorted, in_ranges-sorted, length-sorted}
use Rattle.cd_base.proofs.places.Places.sorting.Goals as goal

pub invariant_of-result : goal.invariant_of-result
invariant_of-result c =
    IsOrdered-sorted c.args.ranges.now c.sort_unstable_by_key.new.self c.in_ok-ranges.ranges.items
    (in_order c.args.ranges.now c.sort_unstable_by_key.new.self c.requires c.sort_unstable_by_key.ensures.permutation
    (c.sort_unstable_by_key.ensures.sorted begin_of (answers_always _ _ _ (λ f a r next called. search rules))))
    c.in_ok-ranges.ensures

pub returns-clause-places : goal.returns-clause-places
returns-clause-places c q =
    in_ranges-sorted c.args.ranges.now c.sort_unstable_by_key.new.self c.in_ok-ranges.ranges.items q
    (in_order c.args.ranges.now c.sort_unstable_by_key.new.self c.requires c.sort_unstable_by_key.ensures.permutation
    (c.sort_unstable_by_key.ensures.sorted begin_of (answers_always _ _ _ (λ f a r next called. search rules))))
    c.in_ok-ranges.ensures

pub returns-clause-few : goal.returns-clause-few
returns-clause-few c =
    length-sorted c.args.ranges.now c.sort_unstable_by_key.new.self c.in_ok-ranges.ranges.items
    (in_order c.args.ranges.now c.sort_unstable_by_key.new.self c.requires c.sort_unstable_by_key.ensures.permutation
    (c.sort_unstable_by_key.ensures.sorted begin_of (answers_always _ _ _ (λ f a r next called. search rules))))
    c.in_ok-ranges.ensures
