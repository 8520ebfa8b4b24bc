use Rattle.std.proofs.Common.{◌≡◌, [], drop}
use Rattle.cd_tree.specs.Slices.{children_in}
use Rattle.cd_tree.proofs.groups.last_child.Given as goal

-- the items behind name no child
abbrev pub invariant-loop-k : goal.invariant-loop-k
invariant-loop-k l = children_in (drop l.k l.items) ≡ []
