use Rattle.cd_lease.specs.Leases.{model_of}
use Rattle.cd_parts_tests.specs.Turns.{IsSpare}
use Rattle.cd_parts_tests.proofs.tests.leases.turns.Given as goal

abbrev pub invariant-loop-turn : goal.invariant-loop-turn
invariant-loop-turn g l = IsSpare (model_of l.fn.pass) (model_of l.pass)
