use Rattle.std.proofs.Common.{◌≡◌}
use Rattle.cd_tree.specs.declared.kinds.KindName.{KindName}
use Rattle.cd_tree.proofs.Differ.{DifferBelow}
use Rattle.cd_tree.proofs.check.kinds_differ.Given as goal

abbrev pub invariant-loop-at : goal.invariant-loop-at
invariant-loop-at l = DifferBelow (λ (one other : KindName). one.name ≡ other.name) l.kinds l.at
