use Rattle.cd_tree.proofs.OtherCounts.{reads_own_counts, reads_points_counts, reads_members_counts}
use Rattle.cd_tree.proofs.laws.readings_know_their_own_counts.Goals as goal

pub returns : goal.returns
returns c = record { domains = reads_own_counts; points = reads_points_counts; members = reads_members_counts }
