use Rattle.std.proofs.Common.{rules, arith}
use Rattle.cd_kernel.proofs.Sums.{none_gathered, block_gathered}
use Rattle.cd_kernel.proofs.totals.gather.Goals as goal

pub loop-at-init : goal.loop-at-init
loop-at-init g c = record {
  within = omega arith;
  so_far = none_gathered c.args.gathering (g.F.Field.model c.args.field.now).words c.args.x;
}

pub loop-at-preserved : goal.loop-at-preserved
loop-at-preserved g c = record {
  within = omega arith;
  so_far = block_gathered c.args.gathering (g.F.Field.model c.args.field.now).words c.args.x c.loop-at.at c.block_length-length.result _
      c.loop-at.so_far c.gather_block-so_far.result c.loop-at.invariant.so_far c.gather_block-so_far.ensures (search rules);
}
