use Rattle.cd_tree.proofs.CountsSmall.{counts_are_small}
use Rattle.cd_tree.proofs.laws.accepted_scripts_keep_counts_small.Goals as goal

pub returns : goal.returns
returns c = counts_are_small
