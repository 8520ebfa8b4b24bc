use Rattle.cd_tree.proofs.FirstFacts.{items_behind, items_before, behind_is_run, behind_is_group, behind_is_nothing, length_of_items, length_behind, length_of_first}
use Rattle.cd_tree.proofs.OfMembers.{members_are_named}
use Rattle.cd_tree.proofs.laws.a_body_follows_its_items.Goals as goal

pub returns : goal.returns
returns c =
    record {
      behind = items_behind;
      before = items_before;
      run = behind_is_run;
      group = behind_is_group;
      nothing = behind_is_nothing;
      members = members_are_named;
      length = length_of_items;
      left = length_behind;
      first = length_of_first;
    }
