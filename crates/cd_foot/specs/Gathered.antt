-- The ranges that a footprint is made from: a domain's own, and those of its members' footprints.
use Rattle.std.specs.Prelude.{◌≡◌, ℕ, ◌<◌, ◌≤◌, List, [], ◌∷◌, ◌++◌, length, map, All, Some, slice_get}
use Rattle.std.specs.Option.{option_map_or}
use Rattle.std.specs.List.{flat_map}
use Rattle.cd_base.specs.declared.place.Place.{Place}
use Rattle.cd_base.specs.declared.place.Range.{Range}
use Rattle.cd_base.specs.Words.{PlaceSet, in_ranges}
use Rattle.cd_tree.specs.declared.domain.NodeId.{NodeId}
use Rattle.cd_tree.specs.declared.domain.Entry.{Entry}
use Rattle.cd_tree.specs.declared.domain.Item.{Item}
use Rattle.cd_tree.specs.declared.domain.Item.TheVariants.{Run, Group}
use Rattle.cd_tree.specs.declared.domain.Domain.{Domain}
use Rattle.cd_tree.specs.declared.operation.Op.{Op}
use Rattle.cd_tree.specs.Operations.{op_reads, op_writes, IsFull}
use Rattle.cd_tree.specs.Domains.{Node, node_of}
use Rattle.cd_tree.specs.Meaning.{node_reads, node_writes}
use Rattle.cd_foot.specs.declared.footprints.Foot.{Foot}
use Rattle.cd_foot.specs.declared.gathered.Side.{Side}
use Rattle.cd_foot.specs.declared.gathered.Side.TheVariants.{Reads, Writes}
use Rattle.cd_foot.specs.Feet.{IsFoot}

-- an operation's own ranges
abbrev pub op_side : Side → Op → List Range
op_side Reads op = op_reads op
op_side Writes op = op_writes op ∷ []

-- a footprint's ranges
abbrev pub foot_side : Side → Foot → List Range
foot_side Reads foot = foot.reads
foot_side Writes foot = foot.writes

-- the ranges of entries, which are read
abbrev pub entry_side : Side → List Entry → List Range
entry_side Reads entries = map (λ entry. entry.range) entries
entry_side Writes entries = []

-- the ranges of a domain, found in the footprints by its number
abbrev pub side_at : Side → List Foot → NodeId → List Range
side_at side feet id = option_map_or (foot_side side) (slice_get feet id.0) []

-- the ranges of an item
abbrev pub item_side : Side → List Foot → Item → List Range
item_side side feet (Run op) = op_side side op
item_side side feet (Group ids) = flat_map (side_at side feet) ids

-- the ranges of a domain
abbrev pub gathered : Side → List Foot → Domain → List Range
gathered side feet domain = entry_side side domain.entries ++ flat_map (item_side side feet) domain.items

-- an item of a program of so many domains: its operation's ranges have places, its group's members are among the domains
abbrev pub IsItemOf : ℕ → Item → Type 0
IsItemOf count (Run op) = All IsFull (op_writes op ∷ op_reads op)
IsItemOf count (Group ids) = All (λ (id : NodeId). id.0 < count) ids

-- a domain whose sets can be gathered beside so many footprints: its entries have places, and its items are of so many domains
pub record CanGather (count : ℕ) (domain : Domain) : Type 0 where
  pub entries : All (λ (entry : Entry). IsFull entry.range) domain.entries
  pub items : All (IsItemOf count) domain.items

-- the places of a domain on one side
abbrev pub node_side : Side → Node → PlaceSet
node_side Reads d = node_reads d
node_side Writes d = node_writes d

-- a set that has the places of a domain on one side
pub record IsSide (side : Side) (d : Node) (set : List Range) : Type 0 where
  pub places : (p : Place) → in_ranges set p ≡ node_side side d p

-- one for each domain from `at` on
pub record AreFeetFrom (at : ℕ) (domains : List Domain) (feet : List Foot) : Type 0 where
  pub size : length feet ≡ length domains
  pub each : (id : NodeId) (d : Node) (foot : Foot) → at ≤ id.0 → node_of domains id ≡ Some d → slice_get feet id.0 ≡ Some foot → IsFoot d foot
