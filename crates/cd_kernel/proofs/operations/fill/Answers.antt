use Rattle.std.proofs.Common.{rules, arith}
use Rattle.cd_kernel.proofs.Turns.{fill_written}
use Rattle.cd_kernel.proofs.operations.fill.Goals as goal

pub loop-at-preserved : goal.loop-at-preserved
loop-at-preserved g c = record {
  within = omega arith;
  written = fill_written (g.F.Field.model c.loop-at.field) (g.F.Field.model c.args.field.now) (g.F.Field.model c.write_from.new.field)
      c.args.d c.args.word c.loop-at.at c.block_length-length.result c.fill_with.new.words _ c.loop-at.invariant.written
      c.fill_with.ensures c.write_from.ensures (search rules) (search rules);
}
