use Rattle.cd_tree.proofs.OfMembers.{members_touch_less, members_are_covered, members_shapes_fit, members_are_disjoint}
use Rattle.cd_tree.proofs.laws.members_are_as_their_domain.Goals as goal

pub returns : goal.returns
returns c =
    record {
      touched = members_touch_less;
      covered = members_are_covered;
      shapes = members_shapes_fit;
      disjoint = members_are_disjoint;
    }
