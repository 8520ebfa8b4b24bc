-- Footprints as recorded: for each domain of a program, the ranges that it reads, writes and reaches.
use Rattle.std.specs.Prelude.{◌≡◌, List, length, Some, slice_get}
use Rattle.cd_base.specs.declared.place.Place.{Place}
use Rattle.cd_base.specs.Words.{in_ranges}
use Rattle.cd_tree.specs.declared.domain.NodeId.{NodeId}
use Rattle.cd_tree.specs.declared.domain.Domain.{Domain}
use Rattle.cd_tree.specs.Domains.{Node, node_of}
use Rattle.cd_tree.specs.Meaning.{node_reads, node_writes, node_reach}
use Rattle.cd_foot.specs.declared.footprints.Foot.{Foot}

-- the sets of one domain, place by place
pub record IsFoot (d : Node) (foot : Foot) : Type 0 where
  pub reads : (p : Place) → in_ranges foot.reads p ≡ node_reads d p
  pub writes : (p : Place) → in_ranges foot.writes p ≡ node_writes d p
  pub reach : (p : Place) → in_ranges foot.reach p ≡ node_reach d p

-- one for each domain of a program, by its number
pub record AreFeet (domains : List Domain) (feet : List Foot) : Type 0 where
  pub size : length feet ≡ length domains
  pub each : (id : NodeId) (d : Node) (foot : Foot) → node_of domains id ≡ Some d → slice_get feet id.0 ≡ Some foot → IsFoot d foot
