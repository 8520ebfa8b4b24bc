use Rattle.cd_tree.proofs.SeesReads.{members_leave}
use Rattle.cd_tree.proofs.Absorbs.{absorbing_is_meaning, absorbing_one, group_writes_by_members}
use Rattle.cd_tree.proofs.laws.absorbing_members_is_their_meaning.Goals as goal

pub returns : goal.returns
returns c = record { all = absorbing_is_meaning; one = absorbing_one; others = members_leave; writes = group_writes_by_members }
