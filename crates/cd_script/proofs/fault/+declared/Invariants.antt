use Rattle.cd_script.proofs.fault.+declared.Given as goal

-- a parent's number is less
abbrev pub decreases-declared : goal.decreases-declared
decreases-declared l = l.node.0
