use Rattle.std.proofs.Common.{◌≡◌, ℕ, ◌<◌, Some, slice_get}
use Rattle.cd_tree.proofs.groups.number_of.Given as goal

-- none so far is this domain
abbrev pub invariant-loop-member : goal.invariant-loop-member
invariant-loop-member l = (k : ℕ) → k < l.member → slice_get l.ids k ≡ Some l.id → ⊥
