use Rattle.std.specs.Vec.Iter.{into_iter_items}
use Rattle.cd_core.specs.StateModel.{state_model}
use Rattle.cd_cells.specs.Working.{SendsStill}
use Rattle.cd_cells.proofs.work.send_members.Given as goal

-- those that are left are still to be sent
abbrev pub invariant-loop-child : goal.invariant-loop-child
invariant-loop-child g l =
    SendsStill g.F.Field.model g.P.Pass.model l.fn.cells l.cells (state_model g.F.Field.model g.P.Pass.model l.fn.state)
    (into_iter_items l.child-iterator)
