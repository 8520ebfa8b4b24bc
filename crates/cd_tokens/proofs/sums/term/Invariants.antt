use Rattle.std.proofs.Common.{◌≡◌, length}
use Rattle.std.specs.Prelude.{Ok}
use Rattle.std.specs.List.{slice_split}
use Rattle.cd_tokens.specs.Sums.{is_times, product_on}
use Rattle.cd_tokens.proofs.sums.term.Given as goal

abbrev pub invariant-loop-factor : goal.invariant-loop-factor
invariant-loop-factor l =
    product_on l.variables l.product (slice_split is_times l.rest) ≡ product_on l.variables (Ok 1) (slice_split is_times l.token)

abbrev pub decreases-loop-factor : goal.decreases-loop-factor
decreases-loop-factor l = length l.rest
