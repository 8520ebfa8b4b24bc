use Rattle.std.proofs.Common.{ℕ, ◌+◌, get_or, length, refl, arith}
use Rattle.cd_base.specs.Words.{Words}
use Rattle.cd_tree.specs.Operations.{nth_word}
use Rattle.cd_kernel.proofs.Sums.{sum_read}
use Rattle.cd_kernel.proofs.operations.scan_block.Goals as goal

pub returns-clause-values : goal.returns-clause-values
returns-clause-values g c j short =
    let w : Words = (g.F.Field.model c.args.field.now).words in
    sum_read c.args.sum (get_or c.sum_up-last.new.words j 0) (j + 1) (j + 1) (λ (i : ℕ). get_or c.run_from.result.now i 0)
    (λ (i : ℕ). nth_word w c.args.x (c.args.at + i)) (λ i before. c.run_from.ensures.words i (omega arith)) (c.sum_up-last.ensures.each j short) refl

pub returns-clause-last : goal.returns-clause-last
returns-clause-last g c =
    let w : Words = (g.F.Field.model c.args.field.now).words in
    sum_read c.args.sum c.sum_up-last.result (length c.run_from.result.now) (length c.sum_up-last.new.words)
    (λ (i : ℕ). get_or c.run_from.result.now i 0) (λ (i : ℕ). nth_word w c.args.x (c.args.at + i))
    c.run_from.ensures.words c.sum_up-last.ensures.last (omega arith)
