use Rattle.std.proofs.Common.{◌↔◌, drop}
use Rattle.cd_tree.specs.TreeModel.{FitsItems}
use Rattle.cd_tree.proofs.check.items_fit.Given as goal

abbrev pub invariant-loop-item : goal.invariant-loop-item
invariant-loop-item l = FitsItems l.domains l.at (drop l.item-index l.items) ↔ FitsItems l.domains l.at l.items
