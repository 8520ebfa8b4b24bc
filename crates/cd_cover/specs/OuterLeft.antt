-- The outer references of a domain that are still to come, where a walk over the links of its subtree stands.
use Rattle.std.specs.Prelude.{◌≡◌, ℕ, zero, suc, ◌+◌, ◌≤◌, ◌<◌, ◌^◌, List, [], ◌∷◌, ◌++◌, drop, length, Option, None, Some, slice_index_or}
use Rattle.std.specs.List.{flat_map}
use Rattle.cd_tree.specs.declared.domain.NodeId.{NodeId}
use Rattle.cd_tree.specs.Domains.{numbers_from}
use Rattle.cd_cover.specs.declared.outer.Position.{Position}
use Rattle.cd_cover.specs.OuterLaws.{leading_before, leading_of}

-- the entries from one on of the domain that is looked at, whose links lead before domain `first`
abbrev pub leading_from : List (List (Option (NodeId × ℕ))) → ℕ → ℕ → ℕ → List (NodeId × ℕ)
leading_from links first n entry = leading_before first (record { 0 = n }) entry (drop entry (slice_index_or links n []))

-- these, and those of the domains behind it
abbrev pub leading_left : List (List (Option (NodeId × ℕ))) → ℕ → ℕ → ℕ → ℕ → List (NodeId × ℕ)
leading_left links first n entry zero = []
leading_left links first n entry (suc left) =
    leading_from links first n entry ++ flat_map (leading_of links first) (numbers_from (suc n) left)

-- what is left at a position
abbrev pub left_at : List (List (Option (NodeId × ℕ))) → ℕ → Position → List (NodeId × ℕ)
left_at links first p = leading_left links first p.node p.entry p.left

-- the domains that are left are there
abbrev pub IsWithin : List (List (Option (NodeId × ℕ))) → Position → Type 0
IsWithin links p = (p.node + p.left ≤ length links) × (length links < 2 ^ 32)

-- a position behind the next outer reference, or that there is none
abbrev pub NextPosition : List (List (Option (NodeId × ℕ))) → ℕ → Position → Option ((NodeId × ℕ) × Position) → Type 0
NextPosition links first p None = left_at links first p ≡ []
NextPosition links first p (Some (reference, behind)) = left_at links first p ≡ reference ∷ left_at links first behind
