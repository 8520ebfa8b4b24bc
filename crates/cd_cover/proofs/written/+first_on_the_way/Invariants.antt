use Rattle.cd_cover.proofs.written.+first_on_the_way.Given as goal

-- a parent's number is less
abbrev pub decreases-first_on_the_way : goal.decreases-first_on_the_way
decreases-first_on_the_way l = l.node.0
