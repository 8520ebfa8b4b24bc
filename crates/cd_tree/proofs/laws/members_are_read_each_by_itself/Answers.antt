use Rattle.cd_tree.proofs.OtherCounts.{each_is_in_order}
use Rattle.cd_tree.proofs.laws.members_are_read_each_by_itself.Goals as goal

pub returns : goal.returns
returns c = each_is_in_order
