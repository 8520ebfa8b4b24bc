use Rattle.cd_speed.specs.Turned.{CanTurn}
use Rattle.cd_speed.proofs.passes.shared_in_turn.Given as goal

abbrev pub invariant-loop-turn : goal.invariant-loop-turn
invariant-loop-turn g l = CanTurn (g.P.Pass.model l.pass) l.id 16000
