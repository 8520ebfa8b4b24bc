-- The laws of outer references: which they are, where their links stand, and that their ranges are left alone on the way.
-- Each is a contract of `laws`.
use Rattle.std.specs.Prelude.{◌≡◌, ◌↔◌, ◌⊎◌, ℕ, suc, ◌<◌, ◌≤◌, Bool, true, false, nat_lt, List, [], ◌∷◌, Option, None, Some, All, length, slice_get, slice_index_or, IsSomeAnd, if◌then◌else◌}
use Rattle.std.specs.List.{Contains, flat_map}
use Rattle.cd_base.specs.declared.place.Place.{Place}
use Rattle.cd_base.specs.Words.{in_range}
use Rattle.cd_tree.specs.declared.domain.NodeId.{NodeId}
use Rattle.cd_tree.specs.declared.domain.How.TheVariants.{Refer}
use Rattle.cd_tree.specs.declared.domain.Entry.{Entry}
use Rattle.cd_tree.specs.declared.domain.Domain.{Domain}
use Rattle.cd_tree.specs.TreeModel.{TreeModel, IsTree}
use Rattle.cd_tree.specs.Domains.{Node, node, number_of, body_of, node_of, node_numbers}
use Rattle.cd_tree.specs.Laws.{OfEach}
use Rattle.cd_tree.specs.Scripts.{path_of}
use Rattle.cd_tree.specs.Legal.{entry_at}
use Rattle.cd_tree.specs.Meaning.{LieIn, node_reads}
use Rattle.cd_cover.specs.Links.{link_of, written_before}
use Rattle.cd_cover.specs.Outer.{outer_references}
use Rattle.cd_cover.specs.Plans.{PlanModel, IsPlan}

-- ---- which they are

-- a domain lies in the subtree of another, which is itself and all below it, exactly where the other is on its path
abbrev pub SubtreesByPaths : Type 0
SubtreesByPaths =
    (tree : TreeModel) → IsTree tree → (id below : NodeId) (d : Node) → node_of tree.domains id ≡ Some d → below.0 < length tree.domains
    → Contains (node_numbers d) below.0 ↔ Contains (path_of tree.domains below) id

-- what any entry of a subtree preserves is read by the domain at its top
abbrev pub EntriesAreRead : Type 0
EntriesAreRead =
    (tree : TreeModel) → IsTree tree → (id below : NodeId) (d : Node) (at : ℕ) (entry : Entry) → node_of tree.domains id ≡ Some d
    → Contains (node_numbers d) below.0 → entry_at tree.domains below at ≡ Some entry → LieIn (in_range entry.range) (node_reads d)

-- above a domain: on its path, and before it
abbrev pub LiesAbove : List Domain → NodeId → NodeId → Type 0
LiesAbove domains id up = Contains (path_of domains id) up × (up.0 < id.0)

-- an entry, by its domain and its number, of a domain or of one below it, whose link lies above the domain
abbrev pub IsOuter : List Domain → Node → NodeId × ℕ → Type 0
IsOuter domains (node id domain body) (below, at) =
    Contains (node_numbers (node id domain body)) below.0 × IsSomeAnd (link_of domains below at) (λ link. LiesAbove domains id link.0)

-- the outer references of a domain are these entries and no others
abbrev pub OuterAreThese : Type 0
OuterAreThese =
    (plan : PlanModel) → IsPlan plan
    → OfEach plan.tree (λ d. (reference : NodeId × ℕ) → Contains (outer_references d) reference ↔ IsOuter plan.tree.domains d reference)

-- each is a reference
abbrev pub OuterAreReferences : Type 0
OuterAreReferences =
    (plan : PlanModel) → IsPlan plan
    → OfEach plan.tree (λ d. All (λ reference. IsSomeAnd (entry_at plan.tree.domains reference.0 reference.1) (λ entry. entry.how ≡ Refer)) (outer_references d))

-- an entry stands before another: in a domain before, or before it in the same domain
abbrev pub ComesBefore : NodeId × ℕ → NodeId × ℕ → Type 0
ComesBefore (id, at) (other, k) = (id.0 < other.0) ⊎ ((id ≡ other) × (at < k))

-- each entry stands before all that follow it
abbrev pub Ascend : List (NodeId × ℕ) → Type 0
Ascend [] = Unit {0}
Ascend (first ∷ rest) = All (ComesBefore first) rest × Ascend rest

-- the outer references of a domain ascend: none stands twice
abbrev pub OuterAscend : Type 0
OuterAscend = (plan : PlanModel) → IsPlan plan → OfEach plan.tree (λ d. Ascend (outer_references d))

-- whether a link leads to a domain that stands before this one
abbrev pub leads_before : ℕ → Option (NodeId × ℕ) → Bool
leads_before at None = false
leads_before at (Some (up, entry)) = nat_lt up.0 at

-- the entries of a domain, given by their links and numbered from `at` on, whose links lead before domain `first`
abbrev pub leading_before : ℕ → NodeId → ℕ → List (Option (NodeId × ℕ)) → List (NodeId × ℕ)
leading_before first id at [] = []
leading_before first id at (link ∷ links) =
    if leads_before first link then (id, at) ∷ leading_before first id (suc at) links
    else leading_before first id (suc at) links

-- those of the domain with this number, whose links a plan has
abbrev pub leading_of : List (List (Option (NodeId × ℕ))) → ℕ → ℕ → List (NodeId × ℕ)
leading_of links first n = leading_before first (record { 0 = n }) 0 (slice_index_or links n [])

-- the outer references of a domain, in order: domain by domain of its subtree the entries whose links lead before it
abbrev pub OuterInOrder : Type 0
OuterInOrder =
    (plan : PlanModel) → IsPlan plan
    → OfEach plan.tree (λ d. outer_references d ≡ flat_map (leading_of plan.links (number_of d)) (node_numbers d))

-- ---- where their links stand

abbrev pub IsChild : List Domain → NodeId → NodeId → Type 0
IsChild domains parent id = IsSomeAnd (slice_get domains id.0) (λ domain. domain.parent ≡ Some parent)

-- the link of an entry is an entry of this domain
abbrev pub LinksTo : List Domain → NodeId → NodeId × ℕ → Type 0
LinksTo domains up reference = IsSomeAnd (link_of domains reference.0 reference.1) (λ link. link.0 ≡ up)

-- an outer reference of a domain has its link among the entries of the parent, or is an outer reference of the parent
abbrev pub OuterOfMembers : Type 0
OuterOfMembers =
    (plan : PlanModel) → IsPlan plan → (parent id : NodeId) (above d : Node)
    → node_of plan.tree.domains parent ≡ Some above → node_of plan.tree.domains id ≡ Some d → IsChild plan.tree.domains parent id
    → All (λ reference. LinksTo plan.tree.domains parent reference ⊎ Contains (outer_references above) reference) (outer_references d)

-- an outer reference of a domain that is not one of its own entries is an outer reference of the child in which it lies
abbrev pub OuterLieBelow : Type 0
OuterLieBelow =
    (plan : PlanModel) → IsPlan plan → (parent id : NodeId) (above d : Node)
    → node_of plan.tree.domains parent ≡ Some above → node_of plan.tree.domains id ≡ Some d → IsChild plan.tree.domains parent id
    → All (λ reference. Contains (node_numbers d) reference.0.0 → Contains (outer_references d) reference) (outer_references above)

-- ---- freshness

-- between a reference and its link no domain writes a place of the range before the group in which the reference lies; nor does
-- the link's domain
abbrev pub FreshOnTheWay : Type 0
FreshOnTheWay =
    (plan : PlanModel) → IsPlan plan → (id up : NodeId) (at k : ℕ) (entry : Entry)
    → entry_at plan.tree.domains id at ≡ Some entry → link_of plan.tree.domains id at ≡ Some (up, k)
    → (parent member : NodeId) (d : Node) → node_of plan.tree.domains parent ≡ Some d → IsChild plan.tree.domains parent member
    → Contains (path_of plan.tree.domains id) member → up.0 ≤ parent.0
    → (p : Place) → in_range entry.range p ≡ true → written_before member.0 (body_of d) p ≡ false

-- what a domain's items write before the group of a member is outside the ranges of the member's outer references
abbrev pub OuterAreFresh : Type 0
OuterAreFresh =
    (plan : PlanModel) → IsPlan plan → (parent id : NodeId) (above d : Node)
    → node_of plan.tree.domains parent ≡ Some above → node_of plan.tree.domains id ≡ Some d → IsChild plan.tree.domains parent id
    → (reference : NodeId × ℕ) (entry : Entry) → Contains (outer_references d) reference
    → entry_at plan.tree.domains reference.0 reference.1 ≡ Some entry
    → (p : Place) → in_range entry.range p ≡ true → written_before id.0 (body_of above) p ≡ false
