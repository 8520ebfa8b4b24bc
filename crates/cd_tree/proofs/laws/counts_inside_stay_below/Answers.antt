use Rattle.cd_tree.proofs.FrontCounts.{front_counts_lie_between, member_counts_lie_below, members_stay_below}
use Rattle.cd_tree.proofs.laws.counts_inside_stay_below.Goals as goal

pub returns : goal.returns
returns c = record { fronts = front_counts_lie_between; groups = member_counts_lie_below; members = members_stay_below }
