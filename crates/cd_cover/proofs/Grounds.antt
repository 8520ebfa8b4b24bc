-- What is proved of programs in the crates below, under the names by which the lemmas here cite it.
use Rattle.cd_tree.specs.Laws.{NestedViewFollows, ParentsComeFirst, PathsGoDown, NeedIsRoots}
use Rattle.cd_tree.specs.Locality.{BodyLeavesOthers}
use Rattle.cd_tree.specs.SliceLaws.{SubtreesAreSlices, SlicesEndWithin, ChildrenStandOnce, MembersAreChildren}
use Rattle.cd_tree.proofs.View.{nested_view_follows}
use Rattle.cd_tree.proofs.PathParents.{parent_before}
use Rattle.cd_tree.proofs.DeclaredPaths.{paths_go_down}
use Rattle.cd_tree.proofs.Needs.{need_is_roots}
use Rattle.cd_tree.proofs.SeesReads.{body_leaves}
use Rattle.cd_tree.proofs.Slices.{subtrees_are_slices}
use Rattle.cd_tree.proofs.Filled.{slice_ends}
use Rattle.cd_tree.proofs.Named.{children_stand_once, members_are_children}

-- the view of a domain is what the list says
pub views : NestedViewFollows
views = nested_view_follows

-- a parent stands before its children
pub parents : ParentsComeFirst
parents tree is id parent domain there up = parent_before tree is id domain there parent up

-- a path goes down from a parent to a child
pub paths : PathsGoDown
paths = paths_go_down

-- no domain needs more than the root
pub roots : NeedIsRoots
roots = need_is_roots

-- a body changes no places but those that it writes
pub leaves : BodyLeavesOthers
leaves = body_leaves

-- a subtree is a slice, which ends within the list
pub slices : SubtreesAreSlices
slices = subtrees_are_slices

pub slices_end : SlicesEndWithin
slices_end = slice_ends

-- a domain stands at one place of its parent's groups, and groups name children
pub once : ChildrenStandOnce
once = children_stand_once

pub children : MembersAreChildren
children = members_are_children
