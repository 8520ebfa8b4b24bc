use Rattle.cd_foot.specs.Gathered.{item_side}
use Rattle.cd_foot.proofs.GatherLemmas.{Gathers}
use Rattle.cd_foot.proofs.gathered.add_items.Given as goal

abbrev pub invariant-loop-item : goal.invariant-loop-item
invariant-loop-item l = Gathers (item_side l.side l.feet) l.items l.item-index l.fn.ranges.items l.ranges.items
