use Rattle.std.proofs.Common.{◌≡◌, ℕ, ◌+◌, ◌<◌, get_or}
use Rattle.cd_base.specs.Words.{word_of}
use Rattle.cd_tree.specs.Operations.{total}
use Rattle.cd_kernel.proofs.lists.sum_up.Given as goal

abbrev pub invariant-loop-i : goal.invariant-loop-i
invariant-loop-i l = record {
  sum : l.sum ≡ word_of (l.initial.sum + total (λ j. get_or l.xs j 0) l.i);
  done : (j : ℕ) → j < l.i → get_or l.words j 0 ≡ word_of (l.initial.sum + total (λ j. get_or l.xs j 0) (j + 1));
}
