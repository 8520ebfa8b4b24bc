use Rattle.std.proofs.Common.{ℕ, ◌<◌}
use Rattle.cd_tree.specs.Groups.{StandsAt}
use Rattle.cd_tree.proofs.groups.place_among.Given as goal

-- the domain is in no item so far
abbrev pub invariant-loop-item : goal.invariant-loop-item
invariant-loop-item l = (k member : ℕ) → k < l.item → StandsAt l.items l.id k member → ⊥
