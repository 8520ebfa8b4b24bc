use Rattle.std.proofs.Common.{◌≡◌}
use Rattle.cd_cover.specs.OuterLeft.{IsWithin, left_at}
use Rattle.cd_cover.proofs.outer.next_leading.Given as goal

abbrev pub invariant-loop-at : goal.invariant-loop-at
invariant-loop-at l =
    record { same : left_at l.links l.first l.fn.from ≡ left_at l.links l.first l.at; within : IsWithin l.links l.at }

abbrev pub decreases-loop-at : goal.decreases-loop-at
decreases-loop-at l = l.at.left
