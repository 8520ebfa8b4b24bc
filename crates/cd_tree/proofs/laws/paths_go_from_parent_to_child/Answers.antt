use Rattle.cd_tree.proofs.PathParents.{parent_before}
use Rattle.cd_tree.proofs.DeclaredPaths.{paths_go_down}
use Rattle.cd_tree.proofs.laws.paths_go_from_parent_to_child.Goals as goal

pub returns : goal.returns
returns c =
    record { parents = λ tree is id parent domain there up. parent_before tree is id domain there parent up; paths = paths_go_down }
