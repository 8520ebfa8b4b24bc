use Rattle.std.proofs.Common.{◌≡◌, ℕ, ◌<◌, get_or}
use Rattle.cd_kernel.specs.Computing.{paired}
use Rattle.cd_kernel.proofs.lists.pair_each.Given as goal

abbrev pub invariant-loop-i : goal.invariant-loop-i
invariant-loop-i l = (j : ℕ) → j < l.i → get_or l.words j 0 ≡ paired l.pairing (get_or l.xs j 0) (get_or l.zs j 0)
