use Rattle.std.proofs.Common.{◌≡◌}
use Rattle.cd_tree.specs.declared.domain.Domain.{Domain}
use Rattle.cd_tree.proofs.Differ.{DifferBelow}
use Rattle.cd_tree.proofs.check.siblings_differ.Given as goal

abbrev pub invariant-loop-at : goal.invariant-loop-at
invariant-loop-at l =
    DifferBelow (λ (one other : Domain). (one.parent ≡ other.parent) × (one.name ≡ other.name)) l.domains l.at
