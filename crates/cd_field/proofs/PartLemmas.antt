-- Places of a list of ranges, and places that still have words.
use Rattle.std.proofs.Common.{◌≡◌, ℕ, zero, suc, ◌<◌, true, List, [], ◌∷◌, length, get_or, Option, IsSome, arith, refl, subst, sym, if◌then◌else◌}
use Rattle.std.proofs.lemmas.Bool.{cond-true, cond-false, or_left, or_right}
use Rattle.cd_base.specs.declared.place.Place.{Place}
use Rattle.cd_base.specs.declared.place.Range.{Range}
use Rattle.cd_base.specs.Words.{Words, same_place, struck_word, in_range, in_ranges}
use Rattle.cd_base.proofs.BoolLemmas.{by_test}

abbrev pub no_range : Range
no_range = record { region = 0; low = 0; high = 0 }

-- the i-th range
abbrev pub range_at : List Range → ℕ → Range
range_at ranges i = get_or ranges i no_range

-- a place of the i-th range is in the ranges
pub in_nth : (ranges : List Range) (i : ℕ) (q : Place) → i < length ranges → in_range (range_at ranges i) q ≡ true → in_ranges ranges q ≡ true
in_nth [] i q short h = absurd (omega arith)
in_nth (r ∷ ranges) zero q short h = or_left _ _ h
in_nth (r ∷ ranges) (suc i) q short h = or_right (in_range r q) _ (in_nth ranges i q (omega arith) h)

-- a strike leaves no place without a word
pub struck_known : (was later : Words) (p : Place) (mask : ℕ) (q : Place) → later ≡ struck_word was p mask → IsSome (was q) → IsSome (later q)
struck_known was later p mask q is some =
    let P : Words → Type 0 = λ w. IsSome (w q) in
    let Q : Option ℕ → Type 0 = λ o. IsSome o in
    subst P (sym is)
    (by_test (same_place p q)
    (λ t. subst Q (sym (cond-true (same_place p q) _ (was q) t)) refl)
    (λ f. subst Q (sym (cond-false (same_place p q) _ (was q) f)) some))

pub still_known : (later was : Words) (q : Place) → later q ≡ was q → IsSome (was q) → IsSome (later q)
still_known later was q is some = let P : Option ℕ → Type 0 = λ o. IsSome o in subst P (sym is) some

-- words taken from others over a range: a place of the range that others know is known, and so is what was
pub taken_known : (others was later : Words) (r : Range) (q : Place) → later q ≡ (if in_range r q then others q else was q)
    → IsSome (others q) → IsSome (was q) → IsSome (later q)
taken_known others was later r q is given some =
    let P : Option ℕ → Type 0 = λ o. IsSome o in
    subst P (sym is)
    (by_test (in_range r q)
    (λ t. subst P (sym (cond-true (in_range r q) (others q) (was q) t)) given)
    (λ f. subst P (sym (cond-false (in_range r q) (others q) (was q) f)) some))
