use Rattle.std.proofs.Common.{◌≡◌, ℕ, ◌+◌, ◌<◌, length, get_or}
use Rattle.cd_base.specs.Words.{word_of}
use Rattle.cd_tree.specs.Operations.{total}
use Rattle.cd_kernel.specs.Computing.{row_at}
use Rattle.cd_kernel.proofs.sparse.rows_of.Given as goal

abbrev pub invariant-loop-i : goal.invariant-loop-i
invariant-loop-i l =
    (j : ℕ) → j < l.i
    → get_or l.words j 0
    ≡ word_of (total (row_at (get_or l.starts (l.at + j) 0) (get_or l.starts (l.at + j + 1) 0) (length l.vector) (λ p. get_or l.columns p 0)
    (λ p. get_or l.values p 0) (λ p. get_or l.vector p 0)) (length l.values))
