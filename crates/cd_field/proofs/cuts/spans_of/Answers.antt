use Rattle.std.proofs.Common.{refl, arith}
use Rattle.cd_field.proofs.CutLemmas.{range_short, held_more, all_held}
use Rattle.cd_field.proofs.cuts.spans_of.Goals as goal

pub loop-range-preserved : goal.loop-range-preserved
loop-range-preserved c =
    held_more c.args.whole.now c.args.ranges.now c.loop-range.range-index _ c.loop-range.spans.items c.widen.new.spans.items c.requires refl
    c.loop-range-test.true c.loop-range.invariant c.widen.ensures

pub widen-requires : goal.widen-requires
widen-requires c full =
    let short = range_short c.args.whole.now c.args.ranges.now c.loop-range.range-index _ c.requires refl c.loop-range-test.true full in
    omega (arith, short, c.loop-range.invariant.long)

pub returns : goal.returns
returns c = all_held c.args.whole.now c.args.ranges.now c.loop-range.range-index c.loop-range.spans.items c.loop-range-test.false c.loop-range.invariant
