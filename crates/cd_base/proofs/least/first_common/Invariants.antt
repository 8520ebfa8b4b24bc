use Rattle.std.proofs.Common.{◌+◌, length}
use Rattle.cd_base.specs.Places.{in_both}
use Rattle.cd_base.proofs.LeastLemmas.{Left}
use Rattle.cd_base.proofs.least.first_common.Given as goal

abbrev pub invariant-loop-one : goal.invariant-loop-one
invariant-loop-one l = Left in_both l.fn.first l.fn.second l.first l.second

abbrev pub decreases-loop-one : goal.decreases-loop-one
decreases-loop-one l = length l.first + length l.second
