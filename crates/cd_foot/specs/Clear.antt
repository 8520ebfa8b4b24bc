-- Members of a group that are apart because none reaches into the ranges of what those before and behind it write.
use Rattle.std.specs.Prelude.{◌≡◌, ℕ, ◌<◌, ◌-◌, ◌&&◌, ◌||◌, true, false, List, [], length, slice_get, slice_index_or}
use Rattle.std.specs.Option.{option_map_or}
use Rattle.cd_base.specs.declared.place.Place.{Place}
use Rattle.cd_base.specs.declared.place.Range.{Range}
use Rattle.cd_base.specs.Words.{PlaceSet, in_ranges}
use Rattle.cd_tree.specs.declared.domain.NodeId.{NodeId}
use Rattle.cd_foot.specs.declared.footprints.Foot.{Foot}
use Rattle.cd_foot.specs.declared.clear.Order.{Order}
use Rattle.cd_foot.specs.declared.clear.Order.TheVariants.{FromFirst, FromLast}

-- the ranges that a domain writes, and those that it reaches, found in the footprints by its number
abbrev pub writes_at : List Foot → NodeId → List Range
writes_at feet id = option_map_or (λ foot. foot.writes) (slice_get feet id.0) []

abbrev pub reach_at : List Foot → NodeId → List Range
reach_at feet id = option_map_or (λ foot. foot.reach) (slice_get feet id.0) []

-- none of these places is in the ranges
abbrev pub Misses : PlaceSet → List Range → Type 0
Misses places ranges = (q : Place) → (in_ranges ranges q && places q) ≡ false

-- a domain reaches nothing of some ranges, and others hold what those do and what the domain writes
pub record Widens (feet : List Foot) (hulls : List Range) (id : NodeId) (all : List Range) : Type 0 where
  pub misses : Misses (in_ranges hulls) (reach_at feet id)
  pub holds : (q : Place) → (in_ranges hulls q || in_ranges (writes_at feet id) q) ≡ true → in_ranges all q ≡ true

-- the index of the one of so many that is gone through after k others
abbrev pub turn : Order → ℕ → ℕ → ℕ
turn FromFirst count k = k
turn FromLast count k = count - 1 - k

-- the number at an index
abbrev pub member_at : List NodeId → ℕ → NodeId
member_at ids i = slice_index_or ids i (record { 0 = 0 })

-- none of these domains reaches what one before it, in an order, writes
pub record IsClear (feet : List Foot) (ids : List NodeId) (order : Order) : Type 0 where
  pub misses : (j k : ℕ) → j < k → k < length ids
      → Misses (in_ranges (writes_at feet (member_at ids (turn order (length ids) j)))) (reach_at feet (member_at ids (turn order (length ids) k)))
