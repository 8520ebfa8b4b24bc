use Rattle.std.proofs.Common.{map}
use Rattle.std.specs.Vec.Iter.{into_iter_items}
use Rattle.cd_core.specs.StateModel.{state_model}
use Rattle.cd_core.proofs.TakenOn.{TakesOn}
use Rattle.cd_core.proofs.state.NodeState.take_all.Given as goal

-- those that are left give what all of them give
abbrev pub invariant-loop-child : goal.invariant-loop-child
invariant-loop-child g l =
    TakesOn l.commit (state_model g.F.Field.model g.P.Pass.model l.initial.self)
    (map (state_model g.F.Field.model g.P.Pass.model) l.fn.children.items)
    (state_model g.F.Field.model g.P.Pass.model l.self)
    (map (state_model g.F.Field.model g.P.Pass.model) (into_iter_items l.child-iterator))
    l.lost
