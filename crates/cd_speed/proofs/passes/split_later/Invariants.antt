use Rattle.std.proofs.Common.{◌+◌, ◌≤◌}
use Rattle.cd_speed.proofs.passes.split_later.Given as goal

abbrev pub invariant-loop-turn : goal.invariant-loop-turn
invariant-loop-turn g l = 16000 ≤ (g.P.Pass.model l.pass).room + l._turn
