use Rattle.std.proofs.Common.{All, ap, subst, sym, ◌∙◌, ◌+◌}
use Rattle.cd_tree.specs.declared.operation.Op.{Op}
use Rattle.cd_tree.specs.Operations.{column, op_reads}
use Rattle.cd_kernel.specs.Computing.{IsHere}
use Rattle.cd_kernel.proofs.blocks.block_words.Goals as goal

pub row_products-requires-clause-here : goal.row_products-requires-clause-here
row_products-requires-clause-here g c κs within =
    let P : Op → Type 0 = λ op. All (IsHere (g.F.Field.model c.args.field.now)) (op_reads op) in
    subst P c.in-Spmv.is c.requires.here

pub returns-in-Dot : goal.returns-in-Dot
returns-in-Dot g c j short =
    c.fill_with-in-Dot.ensures j short
    ∙ c.gather-in-Dot.ensures
    ∙ sym (ap (λ (op : Op). column op (g.F.Field.model c.args.field.now).words (c.args.at + j)) c.in-Dot.is)
