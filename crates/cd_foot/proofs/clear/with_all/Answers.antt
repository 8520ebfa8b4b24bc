use Rattle.cd_foot.proofs.ClearLemmas.{next_holds}
use Rattle.cd_foot.proofs.clear.with_all.Goals as goal

pub loop-range-preserved : goal.loop-range-preserved
loop-range-preserved c q h =
    next_holds c.loop-range.hulls c.in_ok-hulls.hulls c.args.ranges.now c.loop-range.range-index q c.loop-range-test.true (c.in_ok-hulls.ensures q)
    (c.loop-range.invariant q h)
