use Rattle.cd_tree.proofs.CountsReading.{counts-le-repeats, counts-do-not-fall, member-counts-do-not-fall}
use Rattle.cd_tree.proofs.laws.counts_grow_by_repeats.Goals as goal

pub returns : goal.returns
returns c = record { most = counts-le-repeats; least = counts-do-not-fall; members = member-counts-do-not-fall }
