-- The laws of subtrees and groups: a subtree is a slice, and a child stands once, in one group of its parent.
use Rattle.std.specs.Prelude.{◌≡◌, ℕ, suc, ◌+◌, ◌<◌, ◌≤◌, List, Some, length, slice_get, IsSomeAnd}
use Rattle.cd_tree.specs.declared.domain.NodeId.{NodeId}
use Rattle.cd_tree.specs.declared.domain.Domain.{Domain}
use Rattle.cd_tree.specs.declared.groups.GroupPlace.{GroupPlace}
use Rattle.cd_tree.specs.Domains.{number_of, body_of, node_numbers, numbers_from}
use Rattle.cd_tree.specs.TreeModel.{TreeModel, IsTree}
use Rattle.cd_tree.specs.Laws.{OfEach}
use Rattle.cd_tree.specs.Slices.{node_size, among, in_slice, slice_end, GroupsFollow, children_in, FillSlice}
use Rattle.cd_tree.specs.Groups.{StandsIn}

-- the numbers of a domain of a program and of those below it are consecutive, from its own on
abbrev pub SubtreesAreSlices : Type 0
SubtreesAreSlices =
    (tree : TreeModel) → IsTree tree → OfEach tree (λ d. node_numbers d ≡ numbers_from (number_of d) (length (node_numbers d)))

-- a number stands in a subtree where it is at least the domain's and below the end of the slice
abbrev pub SlicesHaveTheirNumbers : Type 0
SlicesHaveTheirNumbers =
    (tree : TreeModel) → IsTree tree → OfEach tree (λ d. (n : ℕ) → among (node_numbers d) n ≡ in_slice (number_of d) (node_size d) n)

-- the slices of the members of a domain follow each other from behind its own number on, group after group
abbrev pub MembersAreSlices : Type 0
MembersAreSlices = (tree : TreeModel) → IsTree tree → OfEach tree (λ d. GroupsFollow (suc (number_of d)) (body_of d))

-- and fill the domain's slice: the first child stands behind the domain, each other where the slice before it ends
abbrev pub ChildrenFillSlices : Type 0
ChildrenFillSlices =
    (tree : TreeModel) → IsTree tree → (id : NodeId) (domain : Domain) → slice_get tree.domains id.0 ≡ Some domain
    → FillSlice tree.domains (suc id.0) (children_in domain.items) (slice_end tree.domains id)

-- a slice ends behind its domain, and within the program
abbrev pub SlicesEndWithin : Type 0
SlicesEndWithin =
    (tree : TreeModel) → IsTree tree → (id : NodeId) → id.0 < length tree.domains
    → (id.0 < slice_end tree.domains id) × (slice_end tree.domains id ≤ length tree.domains)

-- each domain of a program but the root stands somewhere in its parent's groups
abbrev pub ChildrenStand : Type 0
ChildrenStand =
    (tree : TreeModel) → IsTree tree → (id parent : NodeId) (domain : Domain) → slice_get tree.domains id.0 ≡ Some domain
    → domain.parent ≡ Some parent → (at : GroupPlace) × StandsIn tree.domains parent id at

-- and nowhere else
abbrev pub ChildrenStandOnce : Type 0
ChildrenStandOnce =
    (tree : TreeModel) → IsTree tree → (id one other : NodeId) (at there : GroupPlace)
    → StandsIn tree.domains one id at → StandsIn tree.domains other id there → (one ≡ other) × (at ≡ there)

-- who stands in a group of a domain is a later domain, and has it as its parent
abbrev pub MembersAreChildren : Type 0
MembersAreChildren =
    (tree : TreeModel) → IsTree tree → (parent id : NodeId) (at : GroupPlace) → StandsIn tree.domains parent id at
    → (parent.0 < id.0) × IsSomeAnd (slice_get tree.domains id.0) (λ child. child.parent ≡ Some parent)
