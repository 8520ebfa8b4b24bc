use Rattle.std.proofs.Common.{◌≡◌, ℕ, ◌+◌, min, refl, ap, ◌∙◌, arith}
use Rattle.cd_base.specs.Words.{Words}
use Rattle.cd_tree.specs.Operations.{length_of, nth_word}
use Rattle.cd_kernel.proofs.Rows.{product_begun, product_more, product_done}
use Rattle.cd_kernel.proofs.sparse.row_product.Goals as goal

-- where a row begins or ends that is cut at a word
cut_at : (ends word count cut : ℕ) → cut ≡ min word count → word ≡ ends → cut ≡ min ends count
cut_at ends word count cut is read = is ∙ ap (λ (k : ℕ). min k count) read

pub loop-p-init : goal.loop-p-init
loop-p-init g c =
    let w : Words = (g.F.Field.model c.args.field.now).words in
    let count : ℕ = length_of c.args.v in
    record {
      within = omega arith;
      so_far = product_begun w c.args.s c.args.c c.args.v c.args.x c.args.i c.cut-start.result count
          (cut_at (nth_word w c.args.s c.args.i) c.read_nth.result count c.cut-start.result c.cut-start.ensures c.read_nth.ensures);
    }

pub loop-p-preserved : goal.loop-p-preserved
loop-p-preserved g c =
    let w : Words = (g.F.Field.model c.args.field.now).words in
    record {
      within = omega arith;
      so_far = product_more w c.args.s c.args.c c.args.v c.args.x c.args.i c.loop-p.p c.cut-start.result c.cut-end.result
          (length_of c.args.v) c.loop-p.sum c.entry_product-sum.result _
          (cut_at (nth_word w c.args.s c.args.i) c.read_nth.result (length_of c.args.v) c.cut-start.result c.cut-start.ensures c.read_nth.ensures)
          (cut_at (nth_word w c.args.s (c.args.i + 1)) c.read_nth-2.result (length_of c.args.v) c.cut-end.result c.cut-end.ensures
          c.read_nth-2.ensures)
          c.loop-p.auto.p c.loop-p-test.true c.loop-p.invariant.so_far c.entry_product-sum.ensures refl;
    }

pub returns : goal.returns
returns g c =
    let w : Words = (g.F.Field.model c.args.field.now).words in
    product_done w c.args.s c.args.c c.args.v c.args.x c.args.i c.loop-p.p c.cut-end.result (length_of c.args.v) c.loop-p.sum
    (cut_at (nth_word w c.args.s (c.args.i + 1)) c.read_nth-2.result (length_of c.args.v) c.cut-end.result c.cut-end.ensures c.read_nth-2.ensures)
    c.loop-p-test.false c.loop-p.invariant.within c.loop-p.invariant.so_far
