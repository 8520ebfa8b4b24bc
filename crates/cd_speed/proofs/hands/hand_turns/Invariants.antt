use Rattle.cd_speed.specs.Timed.{HasRegions}
use Rattle.cd_speed.proofs.hands.hand_turns.Given as goal

abbrev pub invariant-loop-turn : goal.invariant-loop-turn
invariant-loop-turn g l = HasRegions (g.F.Field.model l.field) 0
