use Rattle.std.proofs.Common.{rules}
use Rattle.cd_foot.proofs.OverlapLemmas.{least_clash}
use Rattle.cd_foot.proofs.overlaps.first_clash.Goals as goal

pub returns : goal.returns
returns c domains d e are here there = search (rules, least_clash)
