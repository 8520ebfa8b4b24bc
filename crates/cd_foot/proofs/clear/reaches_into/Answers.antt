use Rattle.cd_foot.proofs.ClearLemmas.{none_misses}
use Rattle.cd_foot.proofs.clear.reaches_into.Goals as goal

pub returns : goal.returns
returns c none =
    c.loop-hull.invariant (none_misses c.args.reach.now c.args.hulls.now c.loop-hull.hull-index c.loop-hull-test.false)
