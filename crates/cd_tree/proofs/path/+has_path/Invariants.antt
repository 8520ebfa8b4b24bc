use Rattle.cd_tree.proofs.path.+has_path.Given as goal

-- a parent's number is less
abbrev pub decreases-has_path : goal.decreases-has_path
decreases-has_path l = l.node.0
