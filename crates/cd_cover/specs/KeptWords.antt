-- The words that links keep, and the laws by which they are still there where a domain waits for a group.
use Rattle.std.specs.Prelude.{◌≡◌, ℕ, true, List, Some, IsSomeAnd}
use Rattle.std.specs.List.{Contains}
use Rattle.cd_base.specs.declared.place.Place.{Place}
use Rattle.cd_base.specs.Words.{Words, in_range}
use Rattle.cd_tree.specs.declared.domain.NodeId.{NodeId}
use Rattle.cd_tree.specs.declared.domain.Entry.{Entry}
use Rattle.cd_tree.specs.declared.domain.Domain.{Domain}
use Rattle.cd_tree.specs.declared.groups.GroupPlace.{GroupPlace}
use Rattle.cd_tree.specs.TreeModel.{TreeModel, IsTree}
use Rattle.cd_tree.specs.Domains.{Node, body_of, node_of}
use Rattle.cd_tree.specs.FirstItems.{first_items, waiting_words}
use Rattle.cd_tree.specs.Groups.{StandsIn}
use Rattle.cd_tree.specs.Legal.{entry_at}
use Rattle.cd_tree.specs.Locality.{SameWords}
use Rattle.cd_tree.specs.Meaning.{body_writes}
use Rattle.cd_cover.specs.Links.{is_kept, link_of, written_before}
use Rattle.cd_cover.specs.Outer.{outer_references}
use Rattle.cd_cover.specs.Plans.{PlanModel, IsPlan}

-- what a domain's items write before the group of a child is what its first items write
abbrev pub WrittenByFirstItems : Type 0
WrittenByFirstItems =
    (tree : TreeModel) → IsTree tree → (parent id : NodeId) (at : GroupPlace) (above : Node) → node_of tree.domains parent ≡ Some above
    → StandsIn tree.domains parent id at
    → (p : Place) → written_before id.0 (body_of above) p ≡ body_writes (first_items at.item (body_of above)) p

-- where a domain waits for a group, the ranges of its members' outer references have the words with which the domain began
abbrev pub OuterWordsStay : Type 0
OuterWordsStay =
    (plan : PlanModel) → IsPlan plan → (parent id : NodeId) (at : GroupPlace) (above d : Node)
    → node_of plan.tree.domains parent ≡ Some above → node_of plan.tree.domains id ≡ Some d → StandsIn plan.tree.domains parent id at
    → (reference : NodeId × ℕ) (entry : Entry) → Contains (outer_references d) reference
    → entry_at plan.tree.domains reference.0 reference.1 ≡ Some entry
    → (begun : Words) → SameWords (in_range entry.range) (waiting_words above at.item begun) begun

-- on the range of each outer reference of a domain these are the words that its link keeps
abbrev pub AgreeWithLinks : List Domain → Node → (NodeId × ℕ → Words) → Words → Type 0
AgreeWithLinks domains d kept w =
    (reference : NodeId × ℕ) (entry : Entry) → Contains (outer_references d) reference → entry_at domains reference.0 reference.1 ≡ Some entry
    → IsSomeAnd (link_of domains reference.0 reference.1) (λ link. SameWords (in_range entry.range) w (kept link))

-- on the range of each copy and each reference among a domain's entries these are the words that it keeps
abbrev pub AgreeWithEntries : List Domain → NodeId → (NodeId × ℕ → Words) → Words → Type 0
AgreeWithEntries domains id kept w =
    (at : ℕ) (entry : Entry) → entry_at domains id at ≡ Some entry → is_kept entry.how ≡ true → SameWords (in_range entry.range) w (kept (id, at))

-- where a domain's words agreed as it began with what its links and its own entries keep, the words at a group agree with what the
-- links of the members keep
abbrev pub LinksServeMembers : Type 0
LinksServeMembers =
    (plan : PlanModel) → IsPlan plan → (parent id : NodeId) (at : GroupPlace) (above d : Node)
    → node_of plan.tree.domains parent ≡ Some above → node_of plan.tree.domains id ≡ Some d → StandsIn plan.tree.domains parent id at
    → (kept : NodeId × ℕ → Words) (begun : Words)
    → AgreeWithLinks plan.tree.domains above kept begun → AgreeWithEntries plan.tree.domains parent kept begun
    → AgreeWithLinks plan.tree.domains d kept (waiting_words above at.item begun)
