-- The laws of frames, links and flaws: what holds of them in every program. Each is a contract of `laws`.
use Rattle.std.specs.Prelude.{◌≡◌, ◌↔◌, ℕ, ◌<◌, true, List, [], ◌∷◌, Option, None, Some, slice_get, IsSomeAnd}
use Rattle.std.specs.List.{Contains}
use Rattle.cd_base.specs.declared.place.Range.{Range}
use Rattle.cd_tree.specs.declared.domain.NodeId.{NodeId}
use Rattle.cd_tree.specs.declared.domain.Entry.{Entry}
use Rattle.cd_tree.specs.declared.domain.Domain.{Domain}
use Rattle.cd_tree.specs.TreeModel.{TreeModel, IsTree, with_kinds}
use Rattle.cd_tree.specs.declared.kinds.KindName.{KindName}
use Rattle.cd_tree.specs.declared.refusal.Refusal.{Refusal}
use Rattle.cd_tree.specs.Domains.{node, body_by, node_of}
use Rattle.cd_tree.specs.Scripts.{path_of}
use Rattle.cd_tree.specs.Legal.{entry_at}
use Rattle.cd_cover.specs.Checks.{FirstFlaw}
use Rattle.cd_cover.specs.Links.{frame_over, frames_of, is_kept, holds_range, link_of}

-- over a domain lies its parent, and then what lies over its parent
abbrev pub FramesGoUp : Type 0
FramesGoUp =
    (tree : TreeModel) → IsTree tree → (id parent : NodeId) (domain above : Domain)
    → slice_get tree.domains id.0 ≡ Some domain → domain.parent ≡ Some parent → slice_get tree.domains parent.0 ≡ Some above
    → frames_of tree.domains id
    ≡ frame_over id.0 (node parent above (body_by (node_of tree.domains) above.items)) ∷ frames_of tree.domains parent

-- over a domain without a parent lies nothing
abbrev pub FramesEnd : Type 0
FramesEnd =
    (tree : TreeModel) → IsTree tree → (id : NodeId) (domain : Domain)
    → slice_get tree.domains id.0 ≡ Some domain → domain.parent ≡ None → frames_of tree.domains id ≡ []

-- an entry that can be referred to, and has the words of a range and more
abbrev pub HoldsLink : Range → Entry → Type 0
HoldsLink r kept = (is_kept kept.how ≡ true) × (holds_range kept.range r ≡ true)

-- a link leads to such an entry of a domain above
abbrev pub LinksLead : Type 0
LinksLead =
    (tree : TreeModel) → IsTree tree → (id up : NodeId) (at k : ℕ) (entry : Entry)
    → entry_at tree.domains id at ≡ Some entry → link_of tree.domains id at ≡ Some (up, k)
    → Contains (path_of tree.domains id) up × (up.0 < id.0) × IsSomeAnd (entry_at tree.domains up k) (HoldsLink entry.range)

-- other names of kinds leave the first flaw of a program as it is
abbrev pub KindsChangeNoFlaw : Type 0
KindsChangeNoFlaw =
    (tree : TreeModel) (kinds : List KindName) (answer : Option Refusal)
    → FirstFlaw tree.domains answer ↔ FirstFlaw (with_kinds tree kinds).domains answer

-- two first flaws of a program, or a flaw and none, are the same
abbrev pub FirstFlawIsOne : Type 0
FirstFlawIsOne = (domains : List Domain) (one other : Option Refusal) → FirstFlaw domains one → FirstFlaw domains other → one ≡ other
