use Rattle.std.proofs.Common.{All}
use Rattle.std.specs.Vec.Iter.{into_iter_items}
use Rattle.cd_state_tests.specs.Claims.{HasTried, IsIdle}
use Rattle.cd_state_tests.proofs.tests.claims.winners.Given as goal

-- nothing is in hand, and those that are left have tried
abbrev pub invariant-loop-back : goal.invariant-loop-back
invariant-loop-back l = IsIdle l.fn.cells l.cells × All (HasTried l.fn.cells) (into_iter_items l.back-iterator)
