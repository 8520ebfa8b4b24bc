use Rattle.std.proofs.Common.{◌≡◌, length}
use Rattle.std.specs.Prelude.{Ok}
use Rattle.cd_tokens.specs.Sums.{sum_on, parts_of}
use Rattle.cd_tokens.proofs.sums.exact.Given as goal

abbrev pub invariant-loop-part : goal.invariant-loop-part
invariant-loop-part l = sum_on l.variables l.sum (parts_of l.sign l.rest) ≡ sum_on l.variables (Ok 0) (parts_of 43 l.token)

abbrev pub decreases-loop-part : goal.decreases-loop-part
decreases-loop-part l = length l.rest
