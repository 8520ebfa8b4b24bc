use Rattle.cd_tree.proofs.CountsReading.{counts-le-entries}
use Rattle.cd_tree.proofs.laws.counts_are_at_most_one_more_than_entries.Goals as goal

pub returns : goal.returns
returns c = counts-le-entries
