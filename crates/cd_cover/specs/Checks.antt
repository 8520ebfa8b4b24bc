-- What is refused of a program before it is planned: domain by domain in preorder what its entries leave out, then entry
-- by entry references that lead nowhere or are stale; and last of all a need above the limit.
use Rattle.std.specs.Prelude.{◌≡◌, ℕ, ◌<◌, ◌≤◌, false, List, Option, None, Some, IsSome}
use Rattle.cd_base.specs.declared.place.Place.{Place}
use Rattle.cd_base.specs.declared.place.Range.{Range}
use Rattle.cd_base.specs.Places.{IsLeast}
use Rattle.cd_tree.specs.declared.domain.NodeId.{NodeId}
use Rattle.cd_tree.specs.declared.domain.How.{How}
use Rattle.cd_tree.specs.declared.domain.How.TheVariants.{Copy, Refer, Regen}
use Rattle.cd_tree.specs.declared.domain.Entry.{Entry}
use Rattle.cd_tree.specs.declared.domain.Domain.{Domain}
use Rattle.cd_tree.specs.declared.refusal.Which.TheVariants as which
use Rattle.cd_tree.specs.declared.refusal.Refusal.{Refusal}
use Rattle.cd_tree.specs.declared.refusal.Refusal.TheVariants.{Uncovered, NoTarget, Stale, Limit}
use Rattle.cd_tree.specs.Domains.{Node, node, number_of, nodes_from, root_of}
use Rattle.cd_tree.specs.Limits.{need_limit}
use Rattle.cd_tree.specs.Meaning.{uncovered, node_need}
use Rattle.cd_tree.specs.Refusals.{Then, FirstOf, numbered}
use Rattle.cd_cover.specs.Links.{Frame, frames_of, link_in, stale, IsFresh}

-- the least place that the domain's body touches and its entries leave out
abbrev pub CoverageOf : Node → Option Refusal → Type 0
CoverageOf d None = (p : Place) → uncovered d p ≡ false
CoverageOf d (Some (Uncovered id place)) = (id.0 ≡ number_of d) × IsLeast (uncovered d) (Some place)
CoverageOf d (Some _) = ⊥

-- a reference has no link, or else it is stale, at the least such place
abbrev pub ReferenceOf : NodeId → List Frame → ℕ → Range → Option Refusal → Type 0
ReferenceOf id frames at r None = IsSome (link_in r frames) × IsFresh r frames
ReferenceOf id frames at r (Some (NoTarget other entry)) = (other ≡ id) × (entry ≡ at) × (link_in r frames ≡ None)
ReferenceOf id frames at r (Some (Stale other entry place)) =
    (other ≡ id) × (entry ≡ at) × IsSome (link_in r frames) × IsLeast (stale r frames) (Some place)
ReferenceOf id frames at r (Some _) = ⊥

-- only a reference can be refused
abbrev pub EntryOf : NodeId → List Frame → ℕ → Range → How → Option Refusal → Type 0
EntryOf id frames at r Copy answer = answer ≡ None
EntryOf id frames at r Refer answer = ReferenceOf id frames at r answer
EntryOf id frames at r (Regen pattern) answer = answer ≡ None

abbrev pub NumberedEntryOf : NodeId → List Frame → ℕ × Entry → Option Refusal → Type 0
NumberedEntryOf id frames (at, entry) answer = EntryOf id frames at entry.range entry.how answer

-- one domain: what its entries leave out, then its entries in order
abbrev pub DomainOf : List Domain → Node → Option Refusal → Type 0
DomainOf domains (node id domain body) answer =
    Then (CoverageOf (node id domain body)) (FirstOf (NumberedEntryOf id (frames_of domains id)) (numbered 0 domain.entries)) answer

-- the blocks that a run of the program needs
abbrev pub NeedOf : Node → Option Refusal → Type 0
NeedOf root None = node_need root ≤ need_limit
NeedOf root (Some (Limit limit count)) = (limit ≡ which.Need) × (count ≡ node_need root) × (need_limit < count)
NeedOf root (Some _) = ⊥

-- the first refusal of a program's plan
abbrev pub FirstFlaw : List Domain → Option Refusal → Type 0
FirstFlaw domains answer = Then (FirstOf (DomainOf domains) (nodes_from 0 domains)) (NeedOf (root_of domains)) answer
