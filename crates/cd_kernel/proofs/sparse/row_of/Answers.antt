use Rattle.std.proofs.Common.{ℕ, length, get_or, refl, arith}
use Rattle.cd_kernel.proofs.Rows.{row_begun, row_more, row_done}
use Rattle.cd_kernel.proofs.sparse.row_of.Goals as goal

pub loop-p-init : goal.loop-p-init
loop-p-init c = record {
  within = omega arith;
  so_far = row_begun c.args.start c.args.end (length c.args.vector.now) (λ (p : ℕ). get_or c.args.columns.now p 0)
      (λ (p : ℕ). get_or c.args.values.now p 0) (λ (p : ℕ). get_or c.args.vector.now p 0) c.cut-first.result (length c.args.values.now)
      c.cut-first.ensures;
}

pub loop-p-preserved : goal.loop-p-preserved
loop-p-preserved c = record {
  within = omega arith;
  so_far = row_more c.args.start c.args.end (length c.args.vector.now) (λ (p : ℕ). get_or c.args.columns.now p 0)
      (λ (p : ℕ). get_or c.args.values.now p 0) (λ (p : ℕ). get_or c.args.vector.now p 0) c.loop-p.p c.cut-first.result c.cut-last.result
      (length c.args.values.now) c.loop-p.sum c.product-sum.result _ c.cut-first.ensures c.cut-last.ensures c.loop-p.auto.p
      c.loop-p-test.true c.loop-p.invariant.so_far c.product-sum.ensures refl;
}

pub returns : goal.returns
returns c =
    row_done c.args.start c.args.end (length c.args.vector.now) (λ (p : ℕ). get_or c.args.columns.now p 0)
    (λ (p : ℕ). get_or c.args.values.now p 0) (λ (p : ℕ). get_or c.args.vector.now p 0) c.loop-p.p c.cut-last.result
    (length c.args.values.now) c.loop-p.sum c.cut-last.ensures c.loop-p-test.false c.loop-p.invariant.within c.loop-p.invariant.so_far
