use Rattle.std.proofs.Common.{◌+◌, ◌≤◌}
use Rattle.std.specs.Prelude.{IsSome}
use Rattle.cd_speed.proofs.passes.held_in_turn.Given as goal

abbrev pub invariant-loop-turn : goal.invariant-loop-turn
invariant-loop-turn g l = IsSome ((g.P.Pass.model l.pass).known l.id) × 16000 ≤ (g.P.Pass.model l.pass).room + l._turn
