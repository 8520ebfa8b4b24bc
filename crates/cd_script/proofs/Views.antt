-- The nested view of a domain: its items are those of the list, and its reach is the one recorded.
use Rattle.std.proofs.Common.{◌≡◌, ℕ, zero, suc, ◌<◌, false, List, [], ◌∷◌, length, Option, None, Some, IsSomeAnd, slice_get, refl, ap, ◌∙◌, arith}
use Rattle.std.specs.Option.{option_map_or}
use Rattle.cd_base.specs.declared.place.Place.{Place}
use Rattle.cd_base.specs.declared.place.Range.{Range}
use Rattle.cd_base.specs.Words.{in_ranges}
use Rattle.cd_tree.specs.declared.domain.NodeId.{NodeId}
use Rattle.cd_tree.specs.declared.domain.Domain.{Domain}
use Rattle.cd_tree.specs.Domains.{Node, domain_of, nodes_from, node_of}
use Rattle.cd_tree.specs.Meaning.{node_reach}
use Rattle.cd_foot.specs.declared.footprints.Foot.{Foot}
use Rattle.cd_foot.specs.Feet.{AreFeet}
use Rattle.cd_script.specs.Acceptance.{last_point, reaches}

-- the number of items of a view, and its reach, where there is a view
abbrev pub items_in : Option Node → ℕ
items_in found = option_map_or (λ d. length (domain_of d).items) found 0

abbrev pub IsThere : Option Node → Type 0
IsThere found = IsSomeAnd found (λ d. Unit {0})

items_from : (at : ℕ) (domains : List Domain) (k : ℕ)
    → items_in (slice_get (nodes_from at domains) k) ≡ option_map_or (λ (domain : Domain). length domain.items) (slice_get domains k) 0
items_from at [] k = refl
items_from at (domain ∷ domains) zero = refl
items_from at (domain ∷ domains) (suc k) = items_from (suc at) domains k

-- the items of a domain's view are the domain's
pub items_seen : (domains : List Domain) (id : NodeId) → items_in (node_of domains id) ≡ last_point domains id
items_seen domains id = items_from 0 domains id.0

there_from : (at : ℕ) (domains : List Domain) (k : ℕ) → k < length domains → IsThere (slice_get (nodes_from at domains) k)
there_from at [] k below = absurd (omega arith)
there_from at (domain ∷ domains) zero below = tt
there_from at (domain ∷ domains) (suc k) below = there_from (suc at) domains k (omega arith)

-- the last point of a domain stands behind its items
pub last_point_of : (domains : List Domain) (id : NodeId) (domain : Domain) → slice_get domains id.0 ≡ Some domain
    → last_point domains id ≡ length domain.items
last_point_of domains id domain there = ap (λ (found : Option Domain). option_map_or (λ (d : Domain). length d.items) found 0) there

reach_by : (domains : List Domain) (feet : List Foot) → AreFeet domains feet → (id : NodeId) (ranges : List Range) (p : Place)
    → (found : Option Node) → node_of domains id ≡ found → IsThere found
    → (foot : Option Foot) → slice_get feet id.0 ≡ foot → IsSomeAnd foot (λ f. ranges ≡ f.reach)
    → in_ranges ranges p ≡ option_map_or (λ d. node_reach d p) found false
reach_by domains feet are id ranges p None is there foot at same = absurd there
reach_by domains feet are id ranges p (Some d) is there None at same = absurd same
reach_by domains feet are id ranges p (Some d) is there (Some foot) at same =
    ap (λ (rs : List Range). in_ranges rs p) same ∙ (are.each id d foot is at).reach p

-- what a footprint records as reached is reached
pub reach_recorded : (domains : List Domain) (feet : List Foot) → AreFeet domains feet → (id : NodeId) → id.0 < length domains
    → (ranges : List Range) → IsSomeAnd (slice_get feet id.0) (λ f. ranges ≡ f.reach)
    → (p : Place) → in_ranges ranges p ≡ reaches domains id p
reach_recorded domains feet are id below ranges same p =
    reach_by domains feet are id ranges p (node_of domains id) refl (there_from 0 domains id.0 below) (slice_get feet id.0) refl same
