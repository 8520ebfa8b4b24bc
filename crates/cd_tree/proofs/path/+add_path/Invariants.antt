use Rattle.cd_tree.proofs.path.+add_path.Given as goal

-- a parent's number is less
abbrev pub decreases-add_path : goal.decreases-add_path
decreases-add_path l = l.node.0
