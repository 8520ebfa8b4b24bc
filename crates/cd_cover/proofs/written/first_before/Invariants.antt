use Rattle.std.proofs.Common.{drop}
use Rattle.cd_cover.proofs.Steps.{ItemsLeft}
use Rattle.cd_cover.proofs.written.first_before.Given as goal

abbrev pub invariant-loop-item : goal.invariant-loop-item
invariant-loop-item l =
    ItemsLeft l.program.tree.now.domains l.fn.parent.0 l.range l.child.0 l.found (drop l.item-index l.item-items) l.item-items
