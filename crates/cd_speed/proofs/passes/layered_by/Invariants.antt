use Rattle.std.proofs.Common.{◌≡◌}
use Rattle.cd_speed.proofs.passes.layered_by.Given as goal

abbrev pub invariant-loop-turn : goal.invariant-loop-turn
invariant-loop-turn g l = (g.P.Pass.model l.pass).room ≡ 1
