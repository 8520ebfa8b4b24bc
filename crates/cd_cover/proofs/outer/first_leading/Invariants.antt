use Rattle.std.proofs.Common.{◌≡◌, drop}
use Rattle.cd_tree.specs.declared.domain.NodeId.{NodeId}
use Rattle.cd_cover.specs.OuterLaws.{leading_before}
use Rattle.cd_cover.proofs.outer.first_leading.Given as goal

abbrev pub invariant-loop-at : goal.invariant-loop-at
invariant-loop-at l =
    (id : NodeId) → leading_before l.first id l.from (drop l.from l.links) ≡ leading_before l.first id l.at (drop l.at l.links)
