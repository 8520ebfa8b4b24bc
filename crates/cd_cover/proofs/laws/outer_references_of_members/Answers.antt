use Rattle.cd_cover.proofs.OuterMembers.{outer_of_members, outer_lie_below}
use Rattle.cd_cover.proofs.laws.outer_references_of_members.Goals as goal

pub returns : goal.returns
returns c = record { members = outer_of_members; below = outer_lie_below }
