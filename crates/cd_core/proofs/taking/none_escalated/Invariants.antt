use Rattle.std.proofs.Common.{◌≡◌, map, drop}
use Rattle.cd_core.specs.Resuming.{all_done, first_escalation}
use Rattle.cd_core.specs.StateModel.{state_model}
use Rattle.cd_core.proofs.taking.none_escalated.Given as goal

-- those that are left are all done where all of them are
abbrev pub invariant-loop-child : goal.invariant-loop-child
invariant-loop-child g l =
    all_done (first_escalation (map (state_model g.F.Field.model g.P.Pass.model) (drop l.child-index l.children)))
    ≡ all_done (first_escalation (map (state_model g.F.Field.model g.P.Pass.model) l.children))
