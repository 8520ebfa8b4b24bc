use Rattle.std.proofs.Common.{subst, sym}
use Rattle.std.proofs.lemmas.List.Elements.{All-head, All-tail}
use Rattle.cd_base.specs.declared.place.Range.{Range}
use Rattle.cd_tree.specs.Operations.{op_reads, op_writes}
use Rattle.cd_kernel.specs.Computing.{IsHere}
use Rattle.cd_kernel.proofs.operations.write_block.Goals as goal

pub block_words-requires-clause-here : goal.block_words-requires-clause-here
block_words-requires-clause-here g c κs within =
    All-tail (IsHere (g.F.Field.model c.args.field.now)) (op_writes c.args.op.now) (op_reads c.args.op.now) c.requires.here

pub write_from-requires-clause-here : goal.write_from-requires-clause-here
write_from-requires-clause-here g c κs within =
    let P : Range → Type 0 = λ r. IsHere (g.F.Field.model c.args.field.now) r in
    subst P (sym c.writes.ensures) (All-head (IsHere (g.F.Field.model c.args.field.now)) (op_writes c.args.op.now) (op_reads c.args.op.now) c.requires.here)
