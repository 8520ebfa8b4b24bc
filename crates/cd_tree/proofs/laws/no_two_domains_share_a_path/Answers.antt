use Rattle.cd_tree.proofs.PathOnly.{no_two_share_a_path}
use Rattle.cd_tree.proofs.laws.no_two_domains_share_a_path.Goals as goal

pub returns : goal.returns
returns c = no_two_share_a_path
