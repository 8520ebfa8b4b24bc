-- Legal records: words that agree in the root's entries serve as well, and at most two events stand for one.
use Rattle.std.proofs.Common.{◌≡◌, ℕ, ◌*◌, ◌≤◌, true, List, length, Option, None, Some, IsSomeAnd, refl, sym, ◌∙◌, arith}
use Rattle.cd_base.specs.declared.place.Place.{Place}
use Rattle.cd_base.specs.declared.place.Range.{Range}
use Rattle.cd_base.specs.declared.pattern.Pattern.{Pattern}
use Rattle.cd_base.specs.Words.{Words, in_range}
use Rattle.cd_tree.specs.declared.domain.NodeId.{NodeId}
use Rattle.cd_tree.specs.declared.domain.How.{How}
use Rattle.cd_tree.specs.declared.domain.How.TheVariants.{Copy, Refer, Regen}
use Rattle.cd_tree.specs.declared.domain.Entry.{Entry}
use Rattle.cd_tree.specs.declared.event.Kept.{Kept}
use Rattle.cd_tree.specs.declared.event.Kept.TheVariants as kept
use Rattle.cd_tree.specs.declared.event.Event.{Event}
use Rattle.cd_tree.specs.declared.event.Event.TheVariants.{Begin, Saved, Fell, Lapsed, Refilled, Reached, Halted, Found, Complete, Escalate}
use Rattle.cd_tree.specs.TreeModel.{TreeModel}
use Rattle.cd_tree.specs.Legal.{entry_at, OfPattern, IsPatternAnd, GivesWords, Differs, DiffersFirst, IsKeptTo, MayStand, MayFall, Legal, nothing, same, fell, lapsed}

-- words that agree in the entries of the root
abbrev pub AgreeAtRoot : TreeModel → Words → Words → Type 0
AgreeAtRoot tree v w =
    (id : NodeId) (at : ℕ) (entry : Entry) (p : Place) → id.0 ≡ 0 → entry_at tree.domains id at ≡ Some entry
    → in_range entry.range p ≡ true → v p ≡ w p

-- what follows from two things that are said of an entry's range and pattern is said of them too
of_both : (P R Q : Range → Pattern → Type 0) (entry : Entry) (how : How)
    → ((pattern : Pattern) → P entry.range pattern → R entry.range pattern → Q entry.range pattern)
    → OfPattern P entry how → OfPattern R entry how → OfPattern Q entry how
of_both P R Q entry Copy turn one other = one
of_both P R Q entry Refer turn one other = one
of_both P R Q entry (Regen pattern) turn one other = turn pattern one other

both_found : (P R Q : Range → Pattern → Type 0) (found : Option Entry)
    → ((entry : Entry) (pattern : Pattern) → found ≡ Some entry → P entry.range pattern → R entry.range pattern → Q entry.range pattern)
    → IsSomeAnd found (λ e. OfPattern P e e.how) → IsSomeAnd found (λ e. OfPattern R e e.how) → IsSomeAnd found (λ e. OfPattern Q e e.how)
both_found P R Q None turn one other = one
both_found P R Q (Some entry) turn one other = of_both P R Q entry entry.how (λ pattern. turn entry pattern refl) one other

both_at : (tree : TreeModel) (id : NodeId) (at : ℕ) (P R Q : Range → Pattern → Type 0)
    → ((entry : Entry) (pattern : Pattern) → entry_at tree.domains id at ≡ Some entry → P entry.range pattern → R entry.range pattern → Q entry.range pattern)
    → IsPatternAnd tree id at P → IsPatternAnd tree id at R → IsPatternAnd tree id at Q
both_at tree id at P R Q turn one other = both_found P R Q (entry_at tree.domains id at) turn one other

kept_to : (tree : TreeModel) (v w : Words) → AgreeAtRoot tree v w → (id : NodeId) (at : ℕ) (how : Kept) → IsKeptTo tree v id at how
    → IsKeptTo tree w id at how
kept_to tree v w agree id at kept.Copy stands = tt
kept_to tree v w agree id at kept.Refer stands = tt
kept_to tree v w agree id at kept.Regen stands =
    λ root.
    both_at tree id at (GivesWords v) (GivesWords v) (GivesWords w)
    (λ entry pattern is gives again p inside. sym (agree id at entry p root is inside) ∙ gives p inside)
    (stands root) (stands root)

may_stand : (tree : TreeModel) (v w : Words) → AgreeAtRoot tree v w → (event : Event) → MayStand tree v event → MayStand tree w event
may_stand tree v w agree (Begin id number) stands = tt
may_stand tree v w agree (Saved id entry how) stands = kept_to tree v w agree id entry how stands
may_stand tree v w agree (Fell id entry place wanted found) stands = tt
may_stand tree v w agree (Lapsed id entry seen found) stands = tt
may_stand tree v w agree (Refilled id entry) stands = tt
may_stand tree v w agree (Reached id point) stands = tt
may_stand tree v w agree (Halted id kinds) stands = tt
may_stand tree v w agree (Found id kinds) stands = tt
may_stand tree v w agree (Complete id) stands = tt
may_stand tree v w agree (Escalate id) stands = tt

may_fall : (tree : TreeModel) (v w : Words) → AgreeAtRoot tree v w → (id : NodeId) (at : ℕ) (place : Place) (wanted found : ℕ)
    → MayFall tree v id at place wanted found → MayFall tree w id at place wanted found
may_fall tree v w agree id at place wanted found falls = record {
  differs = falls.differs;
  first = λ root.
      both_at tree id at (Differs place wanted found) (DiffersFirst v place found) (DiffersFirst w place found)
      (λ entry pattern is differs first. (
        sym (agree id at entry place root is differs.0) ∙ first.0,
        λ p inside below. sym (agree id at entry p root is inside) ∙ first.1 p inside below,
      ))
      falls.differs (falls.first root);
}

-- a record that is legal with some words as those that were loaded is so with others that agree with them there
pub legal_with : {tree : TreeModel} (v w : Words) → AgreeAtRoot tree v w → {actual expected : List Event} → Legal tree v actual expected
    → Legal tree w actual expected
legal_with {tree} v w agree nothing = nothing
legal_with {tree} v w agree (same event actual expected stands rest) =
    same event _ _ (may_stand tree v w agree event stands) (legal_with v w agree rest)
legal_with {tree} v w agree (fell id entry place wanted found actual expected falls rest) =
    fell id entry place wanted found _ _ (may_fall tree v w agree id entry place wanted found falls) (legal_with v w agree rest)
legal_with {tree} v w agree (lapsed id entry seen found actual expected gone rest) =
    lapsed id entry seen found _ _ gone (legal_with v w agree rest)

-- it has at most two events for each of the reading's
pub legal_length : {tree : TreeModel} {w : Words} {actual expected : List Event} → Legal tree w actual expected → length actual ≤ 2 * length expected
legal_length nothing = omega arith
legal_length (same event actual expected stands rest) = omega (arith, legal_length rest)
legal_length (fell id entry place wanted found actual expected falls rest) = omega (arith, legal_length rest)
legal_length (lapsed id entry seen found actual expected gone rest) = omega (arith, legal_length rest)
