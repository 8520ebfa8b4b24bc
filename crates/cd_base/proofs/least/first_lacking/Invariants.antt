use Rattle.std.proofs.Common.{◌+◌, length}
use Rattle.cd_base.specs.Places.{in_second_alone}
use Rattle.cd_base.proofs.LeastLemmas.{Left}
use Rattle.cd_base.proofs.least.first_lacking.Given as goal

abbrev pub invariant-loop-other : goal.invariant-loop-other
invariant-loop-other l = Left in_second_alone l.fn.first l.fn.second l.first l.second

abbrev pub decreases-loop-other : goal.decreases-loop-other
decreases-loop-other l = length l.first + length l.second
