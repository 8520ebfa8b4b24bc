use Rattle.std.proofs.Common.{drop}
use Rattle.cd_cover.proofs.NeedLemmas.{GroupsLeft}
use Rattle.cd_cover.proofs.needs.groups_blocks.Given as goal

abbrev pub invariant-loop-item : goal.invariant-loop-item
invariant-loop-item l = GroupsLeft l.tree.domains l.fn.node.0 l.most (drop l.item-index l.item-items) l.item-items
