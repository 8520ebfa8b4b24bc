-- Sets of places with a bound: such a set has a least place or none at all, and what a domain reaches is such a set.
use Rattle.std.specs.Prelude.{◌≡◌, ℕ, ◌<◌, true, List, Option, None}
use Rattle.cd_base.specs.declared.place.Place.{Place}
use Rattle.cd_base.specs.Words.{PlaceSet}
use Rattle.cd_base.specs.Places.{IsLeast}
use Rattle.cd_tree.specs.declared.domain.Domain.{Domain}
use Rattle.cd_tree.specs.declared.refusal.Refusal.{Refusal}
use Rattle.cd_tree.specs.Domains.{Node, root_of}
use Rattle.cd_tree.specs.Meaning.{node_reach, IsDisjoint}
use Rattle.cd_tree.specs.TreeModel.{TreeModel, IsTree}
use Rattle.cd_foot.specs.Overlaps.{FirstOverlap}

-- all places of a set lie in the first so many regions, and at the first so many indices
pub record IsBounded (places : PlaceSet) : Type 0 where
  pub regions : ℕ
  pub indices : ℕ
  pub within : (p : Place) → places p ≡ true → (p.region < regions) × (p.index < indices)

-- a set with a bound has a least place, or it has no place
abbrev pub BoundedHasLeast : Type 0
BoundedHasLeast = (places : PlaceSet) → IsBounded places → (answer : Option Place) × IsLeast places answer

-- what a domain reaches has a bound
abbrev pub ReachIsBounded : Type 0
ReachIsBounded = (d : Node) → IsBounded (node_reach d)

-- each program has a first overlap, or none
abbrev pub FirstOverlapIsThere : Type 0
FirstOverlapIsThere = (domains : List Domain) → (answer : Option Refusal) × FirstOverlap domains answer

-- a program that has none is disjoint
abbrev pub NoOverlapIsDisjoint : Type 0
NoOverlapIsDisjoint = (tree : TreeModel) → IsTree tree → FirstOverlap tree.domains None → IsDisjoint (root_of tree.domains)
