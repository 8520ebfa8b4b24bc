use Rattle.std.proofs.Common.{◌≡◌, ◌≤◌}
use Rattle.cd_base.specs.Words.{word_of}
use Rattle.cd_tree.specs.Operations.{product_at, total}
use Rattle.cd_kernel.proofs.sparse.row_product.Given as goal

abbrev pub invariant-loop-p : goal.invariant-loop-p
invariant-loop-p g l = record {
  within : l.p ≤ l.count;
  so_far : l.sum ≡ word_of (total (product_at (g.F.Field.model l.field).words l.fn.s l.c l.v l.x l.i) l.p);
}
