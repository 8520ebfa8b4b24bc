-- The laws of links and needs: what a plan promises of each reference, and a program of each group. Each is a contract of `laws`.
use Rattle.std.specs.Prelude.{◌≡◌, ◌≢◌, ℕ, ◌+◌, ◌≤◌, List, None, Some, slice_get, sum_by, IsSomeAnd}
use Rattle.std.specs.Option.{option_map_or}
use Rattle.cd_base.specs.declared.place.Range.{Range}
use Rattle.cd_tree.specs.declared.domain.NodeId.{NodeId}
use Rattle.cd_tree.specs.declared.domain.Item.TheVariants.{Group}
use Rattle.cd_tree.specs.declared.domain.How.TheVariants.{Refer}
use Rattle.cd_tree.specs.declared.domain.Entry.{Entry}
use Rattle.cd_tree.specs.declared.domain.Domain.{Domain}
use Rattle.cd_tree.specs.TreeModel.{TreeModel, IsTree}
use Rattle.cd_tree.specs.Domains.{node_of}
use Rattle.cd_tree.specs.Meaning.{node_need}
use Rattle.cd_tree.specs.Legal.{entry_at}
use Rattle.cd_cover.specs.Laws.{HoldsLink}
use Rattle.cd_cover.specs.Links.{link_of}
use Rattle.cd_cover.specs.Needs.{own_need}
use Rattle.cd_cover.specs.Plans.{PlanModel, IsPlan}
use Rattle.cd_cover.specs.OuterLaws.{LiesAbove, IsChild}

-- what a link of a range leads to: a copy or a reference of a domain above, which holds the range
abbrev pub LinkHolds : List Domain → NodeId → Range → NodeId × ℕ → Type 0
LinkHolds domains id r (up, at) = LiesAbove domains id up × IsSomeAnd (entry_at domains up at) (HoldsLink r)

-- each reference of a plan has such a link
abbrev pub ReferencesHaveLinks : Type 0
ReferencesHaveLinks =
    (plan : PlanModel) → IsPlan plan → (id : NodeId) (at : ℕ) (entry : Entry) → entry_at plan.tree.domains id at ≡ Some entry
    → entry.how ≡ Refer → IsSomeAnd (link_of plan.tree.domains id at) (LinkHolds plan.tree.domains id entry.range)

-- and nothing else has one
abbrev pub OnlyReferencesHaveLinks : Type 0
OnlyReferencesHaveLinks =
    (domains : List Domain) (id : NodeId) (at : ℕ) (entry : Entry) → entry_at domains id at ≡ Some entry
    → entry.how ≢ Refer → link_of domains id at ≡ None

-- the blocks that a domain needs, by its number
abbrev pub need_of : List Domain → NodeId → ℕ
need_of domains id = option_map_or node_need (node_of domains id) 0

-- the entries of a domain and the members of one of its groups need together no more than the domain
abbrev pub GroupsNeedWithin : Type 0
GroupsNeedWithin =
    (tree : TreeModel) → IsTree tree → (id : NodeId) (domain : Domain) → slice_get tree.domains id.0 ≡ Some domain
    → (k : ℕ) (ids : List NodeId) → slice_get domain.items k ≡ Some (Group ids)
    → own_need domain + sum_by (need_of tree.domains) ids ≤ need_of tree.domains id

-- a child needs no more than its parent has beside its own entries
abbrev pub ChildrenNeedWithin : Type 0
ChildrenNeedWithin =
    (tree : TreeModel) → IsTree tree → (parent id : NodeId) (above : Domain) → slice_get tree.domains parent.0 ≡ Some above
    → IsChild tree.domains parent id → own_need above + need_of tree.domains id ≤ need_of tree.domains parent
