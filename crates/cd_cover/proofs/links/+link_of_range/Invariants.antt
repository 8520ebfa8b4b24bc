use Rattle.cd_cover.proofs.links.+link_of_range.Given as goal

-- a parent's number is less
abbrev pub decreases-link_of_range : goal.decreases-link_of_range
decreases-link_of_range l = l.node.0
