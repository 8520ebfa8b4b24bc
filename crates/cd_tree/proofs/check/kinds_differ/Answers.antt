use Rattle.std.proofs.Common.{◌≡◌, ◌≢◌, Some, All, length, slice_get, take, sym, refl}
use Rattle.std.proofs.lemmas.Option.{slice_get_read}
use Rattle.cd_tree.specs.declared.kinds.KindName.{KindName}
use Rattle.cd_tree.proofs.Differ.{differ_more, differ_before, differ_all}
use Rattle.cd_tree.proofs.check.kinds_differ.Goals as goal

-- two kinds have the same name
abbrev SameName : KindName → KindName → Type 0
SameName one other = one.name ≡ other.name

pub returns-then-not-is_new_kind : goal.returns-then-not-is_new_kind
returns-then-not-is_new_kind c =
    let kinds = c.args.kinds.now in
    let here : slice_get kinds c.loop-at.at ≡ Some c.index-kinds-at.result =
    slice_get_read kinds (length kinds) c.loop-at.at c.index-kinds-at.result refl c.loop-at-test.true c.index-kinds-at.is in (
      λ wrong. absurd (cc),
      λ differ. c.if-not-is_new_kind.ensures.1 (differ_before SameName kinds c.loop-at.at c.index-kinds-at.result here differ),
    )

pub loop-at-preserved : goal.loop-at-preserved
loop-at-preserved c =
    let kinds = c.args.kinds.now in
    let here : slice_get kinds c.loop-at.at ≡ Some c.index-kinds-at.result =
    slice_get_read kinds (length kinds) c.loop-at.at c.index-kinds-at.result refl c.loop-at-test.true c.index-kinds-at.is in
    differ_more SameName (λ x y same. sym same) kinds c.loop-at.at c.index-kinds-at.result here
    (c.if-not-is_new_kind.ensures.0 refl) c.loop-at.invariant

pub returns : goal.returns
returns c = (
  λ all. differ_all SameName c.args.kinds.now c.loop-at.at c.loop-at-test.false c.loop-at.invariant,
  λ differ. refl,
)
