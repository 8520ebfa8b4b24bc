-- The laws of overlaps: what holds of them in every program. Each is a contract of `laws`.
use Rattle.std.specs.Prelude.{◌≡◌, ◌↔◌, List, Option}
use Rattle.cd_tree.specs.declared.domain.Domain.{Domain}
use Rattle.cd_tree.specs.declared.kinds.KindName.{KindName}
use Rattle.cd_tree.specs.declared.refusal.Refusal.{Refusal}
use Rattle.cd_tree.specs.TreeModel.{TreeModel, with_kinds}
use Rattle.cd_foot.specs.Overlaps.{FirstOverlap}

-- other names of kinds leave the first overlap as it is
abbrev pub KindsChangeNoOverlap : Type 0
KindsChangeNoOverlap =
    (tree : TreeModel) (kinds : List KindName) (answer : Option Refusal)
    → FirstOverlap tree.domains answer ↔ FirstOverlap (with_kinds tree kinds).domains answer

-- two first overlaps of a program, or an overlap and none, are the same
abbrev pub FirstOverlapIsOne : Type 0
FirstOverlapIsOne =
    (domains : List Domain) (one other : Option Refusal) → FirstOverlap domains one → FirstOverlap domains other → one ≡ other
