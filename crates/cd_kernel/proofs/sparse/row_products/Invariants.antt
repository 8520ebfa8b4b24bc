use Rattle.std.proofs.Common.{◌≡◌, ℕ, ◌+◌, ◌<◌, get_or}
use Rattle.cd_base.specs.Words.{word_of}
use Rattle.cd_tree.specs.Operations.{length_of, product_at, total}
use Rattle.cd_kernel.proofs.sparse.row_products.Given as goal

abbrev pub invariant-loop-i : goal.invariant-loop-i
invariant-loop-i g l =
    (j : ℕ) → j < l.i
    → get_or l.words j 0 ≡ word_of (total (product_at (g.F.Field.model l.field).words l.s l.c l.v l.x (l.at + j)) (length_of l.v))
