use Rattle.cd_tree.proofs.Named as named
use Rattle.cd_tree.proofs.laws.children_stand_once.Goals as goal

pub returns : goal.returns
returns c =
    record { stand = named.children_stand; once = named.children_stand_once; children = named.members_are_children }
