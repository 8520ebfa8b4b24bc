use Rattle.std.proofs.Common.{◌↔◌, drop}
use Rattle.cd_tree.specs.TreeModel.{NamesChildren}
use Rattle.cd_tree.proofs.check.are_children.Given as goal

abbrev pub invariant-loop-id : goal.invariant-loop-id
invariant-loop-id l = NamesChildren l.domains l.at (drop l.id-index l.ids) ↔ NamesChildren l.domains l.at l.ids
