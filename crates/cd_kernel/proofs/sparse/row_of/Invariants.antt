use Rattle.std.proofs.Common.{◌≡◌, ◌≤◌, length, get_or}
use Rattle.cd_base.specs.Words.{word_of}
use Rattle.cd_tree.specs.Operations.{total}
use Rattle.cd_kernel.specs.Computing.{row_at}
use Rattle.cd_kernel.proofs.sparse.row_of.Given as goal

abbrev pub invariant-loop-p : goal.invariant-loop-p
invariant-loop-p l = record {
  within : l.p ≤ l.count;
  so_far : l.sum
      ≡ word_of (total (row_at l.start l.end (length l.vector) (λ p. get_or l.columns p 0) (λ p. get_or l.values p 0) (λ p. get_or l.vector p 0)) l.p);
}
