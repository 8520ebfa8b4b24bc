use Rattle.std.proofs.Common.{All}
use Rattle.cd_state_tests.specs.Claims.{IsIdle}
use Rattle.cd_state_tests.proofs.tests.claims.parted.Given as goal

-- nothing is in hand, nor with the passes that are split off
abbrev pub invariant-loop : goal.invariant-loop
invariant-loop l = IsIdle l.fn.cells l.cells × All (IsIdle l.fn.cells) l.passes.items
