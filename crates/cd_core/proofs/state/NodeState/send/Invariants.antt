use Rattle.std.proofs.Common.{drop, map}
use Rattle.cd_core.specs.StateModel.{state_model}
use Rattle.cd_core.proofs.Sends.{Leads}
use Rattle.cd_core.proofs.state.NodeState.send.Given as goal

-- the members that were sent with those that are left to send are all of them
abbrev pub invariant-loop-id : goal.invariant-loop-id
invariant-loop-id g l =
    Leads l.plan (state_model g.F.Field.model g.P.Pass.model l.fn.self) (state_model g.F.Field.model g.P.Pass.model l.self) l.fn.ids
    (drop l.id-index l.fn.ids) (map (state_model g.F.Field.model g.P.Pass.model) l.children.items)
