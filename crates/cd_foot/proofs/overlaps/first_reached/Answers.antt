use Rattle.cd_foot.proofs.OverlapLemmas.{least_reached}
use Rattle.cd_foot.proofs.overlaps.first_reached.Goals as goal

pub returns : goal.returns
returns c domains d e are here there =
    least_reached domains c.args.feet.now c.args.one c.args.other d e c.writes.result.now c.reach.result.now c.meets.result
    are here there c.writes.ensures c.reach.ensures c.meets.ensures
