-- Paths as texts: names from the root on, joined by `/`, which is byte 47.
use Rattle.std.specs.Prelude.{◌≡◌, ◌≢◌, ℕ, ◌<◌, List, [], length, map, slice_get}
use Rattle.std.specs.List.{join_with_byte}
use Rattle.std.specs.Option.{option_map_or}
use Rattle.cd_tree.specs.declared.domain.NodeId.{NodeId}
use Rattle.cd_tree.specs.declared.domain.Domain.{Domain}
use Rattle.cd_tree.specs.Scripts.{path_of}

-- the name of a domain; empty where there is no such domain
abbrev pub name_of : List Domain → NodeId → List ℕ
name_of domains id = option_map_or (λ domain. domain.name) (slice_get domains id.0) []

-- the text of a domain's path
abbrev pub path_text_of : List Domain → NodeId → List ℕ
path_text_of domains id = join_with_byte 47 (map (name_of domains) (path_of domains id))

-- no domain has this path
abbrev pub IsNoPath : List Domain → List ℕ → Type 0
IsNoPath domains path = (id : NodeId) → id.0 < length domains → path_text_of domains id ≢ path

-- this domain has this path, and no domain before it has
abbrev pub IsFirstAt : List Domain → List ℕ → NodeId → Type 0
IsFirstAt domains path id =
    (id.0 < length domains) × (path_text_of domains id ≡ path)
    × ((other : NodeId) → other.0 < id.0 → path_text_of domains other ≢ path)
