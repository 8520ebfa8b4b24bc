use Rattle.cd_tree.proofs.Reach.{node_within}
use Rattle.cd_tree.proofs.Covers.{reach_is_entries}
use Rattle.cd_tree.proofs.laws.a_covered_domain_reaches_its_entries_alone.Goals as goal

pub returns : goal.returns
returns c = record { within = node_within; same = reach_is_entries }
