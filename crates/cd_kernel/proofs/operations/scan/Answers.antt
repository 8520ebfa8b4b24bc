use Rattle.std.proofs.Common.{rules, arith}
use Rattle.cd_field.specs.FieldModel.{FieldModel}
use Rattle.cd_kernel.proofs.Turns.{scan_summed, scan_written}
use Rattle.cd_kernel.proofs.operations.scan.Goals as goal

pub loop-at-preserved : goal.loop-at-preserved
loop-at-preserved g c =
    let was : FieldModel = g.F.Field.model c.args.field.now in
    let m : FieldModel = g.F.Field.model c.loop-at.field in
    record {
      within = omega arith;
      sum = scan_summed m was c.args.d c.args.x c.loop-at.at c.block_length-length.result c.loop-at.sum c.scan_block-sum.result
          c.loop-at.invariant.written c.requires.shape (omega arith) c.loop-at.invariant.sum _ c.scan_block-sum.ensures.last (search rules);
      written = scan_written m was (g.F.Field.model c.scan_block-sum.new.field) c.args.d c.args.x c.loop-at.at c.block_length-length.result
          c.loop-at.sum c.scan_block-sum.new.words c.loop-at.invariant.written c.requires.shape (omega arith) c.loop-at.invariant.sum
          c.scan_block-sum.ensures.values c.scan_block-sum.ensures.written (search rules);
    }
