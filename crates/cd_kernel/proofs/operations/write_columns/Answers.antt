use Rattle.std.proofs.Common.{rules, arith, ◌∷◌}
use Rattle.cd_tree.specs.Operations.{op_reads, op_writes}
use Rattle.cd_kernel.proofs.Turns.{still_here, block_written}
use Rattle.cd_kernel.proofs.operations.write_columns.Goals as goal

pub write_block-requires-clause-here : goal.write_block-requires-clause-here
write_block-requires-clause-here g c κs within =
    still_here (g.F.Field.model c.loop-at.field) (g.F.Field.model c.args.field.now) c.args.op.now c.loop-at.at
    (op_writes c.args.op.now ∷ op_reads c.args.op.now) c.loop-at.invariant.written c.requires.present

pub loop-at-preserved : goal.loop-at-preserved
loop-at-preserved g c = record {
  within = omega arith;
  written = block_written c.an_operation_sees_its_sources_alone.ensures.column (g.F.Field.model c.loop-at.field) (g.F.Field.model c.args.field.now) (g.F.Field.model c.write_block.new.field)
      c.args.op.now c.loop-at.at c.block_length-length.result c.write_block.new.words c.loop-at.invariant.written c.requires.direct
      c.requires.shape (search rules) c.write_block.ensures.values c.write_block.ensures.written (search rules);
}
