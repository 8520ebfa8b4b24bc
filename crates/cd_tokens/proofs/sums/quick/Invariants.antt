use Rattle.std.proofs.Common.{◌≡◌, length}
use Rattle.cd_tokens.specs.Sums.{expression}
use Rattle.cd_tokens.specs.Quick.{sum_behind}
use Rattle.cd_tokens.proofs.sums.quick.Given as goal

abbrev pub invariant-loop-factor : goal.invariant-loop-factor
invariant-loop-factor l = sum_behind l.variables l.reading l.rest ≡ expression l.variables l.token

abbrev pub decreases-loop-factor : goal.decreases-loop-factor
decreases-loop-factor l = length l.rest
