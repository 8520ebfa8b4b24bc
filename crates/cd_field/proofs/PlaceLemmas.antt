-- Lemmas on single places, ranges and lists of ranges, for functions of places that change at some of them.
use Rattle.std.proofs.Common.{◌≡◌, ℕ, ◌+◌, ◌<◌, ◌≤◌, Bool, true, false, ◌&&◌, ◌||◌, nat_lt, nat_le, ◌==◌, List, ◌∷◌, length, refl, sym, ap, ◌∙◌, arith, if◌then◌else◌, Option, None}
use Rattle.std.proofs.lemmas.Bool.Decides.{nat_tests}
use Rattle.std.proofs.lemmas.Bool.{cond_both}
use Rattle.std.proofs.lemmas.Option.{slice_get_past}
use Rattle.std.specs.BTreeMap.{is_at}
use Rattle.std.specs.Ordering.{nat_cmp, ordering_then, is_eq}
use Rattle.cd_base.specs.declared.place.Place.{Place}
use Rattle.cd_base.specs.declared.place.Range.{Range}
use Rattle.cd_base.specs.Words.{Words, same_place, in_range, in_ranges}
use Rattle.cd_tree.specs.declared.document.Region.{Region}
use Rattle.cd_tree.specs.Meaning.{initial, initial_word}
use Rattle.cd_field.specs.Maps.{place_cmp}

-- ---- numbers

at_both : (a b i j : ℕ) → is_eq (ordering_then (nat_cmp a b) (nat_cmp i j)) ≡ ((a == b) && (i == j))
at_both a b i j = grind (arith, nat_tests)

both_same : (a b i j : ℕ) → ((a == b) && (i == j)) ≡ true → (a ≡ b) × (i ≡ j)
both_same a b i j h = (grind (arith, nat_tests), grind (arith, nat_tests))

span_step : (a b i j high : ℕ) → i < high
    → ((a == b) && (nat_le i j && nat_lt j high)) ≡ (((a == b) && (i == j)) || ((a == b) && (nat_le (i + 1) j && nat_lt j high)))
span_step a b i j high h = grind (arith, nat_tests)

span_none : (a b i j high : ℕ) → high ≤ i → ((a == b) && (nat_le i j && nat_lt j high)) ≡ false
span_none a b i j high h = grind (arith, nat_tests)

span_zero : (a b j high : ℕ) → ((a == b) && (nat_le 0 j && nat_lt j high)) ≡ ((a == b) && nat_lt j high)
span_zero a b j high = grind (arith, nat_tests)

-- ---- places

-- the order of places tells them apart
pub place_cmp-same : (p q : Place) → is_at (place_cmp p) q ≡ same_place p q
place_cmp-same p q = at_both p.region q.region p.index q.index

pub same_place-eq : (p q : Place) → same_place p q ≡ true → p ≡ q
same_place-eq p q h =
    let e = both_same p.region q.region p.index q.index h in
    ap (λ (n : ℕ). let made : Place = record { region = n; index = p.index } in made) e.0
    ∙ ap (λ (n : ℕ). let made : Place = record { region = q.region; index = n } in made) e.1

-- ---- a choice by two tests

pub choice_or : {X : Type 0} (a b : Bool) (x y : X) → (if a || b then x else y) ≡ (if b then x else (if a then x else y))
choice_or true true x y = refl
choice_or true false x y = refl
choice_or false b x y = refl

-- a function changed at one place to what another function has there
pub choice_at : {X : Type 0} (f : Place → X) (p q : Place) (y : X) → (if same_place p q then f p else y) ≡ (if same_place p q then f q else y)
choice_at f p q y =
    cond_both (same_place p q) (f p) y (λ x. x ≡ (if same_place p q then f q else y))
    (λ (h : same_place p q ≡ true). rw h (ap f (same_place-eq p q h)))
    (λ (h : same_place p q ≡ false). rw h refl)

-- words changed at one place to those of others
pub taken : (others old new : Words) (p : Place) (found : Option ℕ) → others p ≡ found
    → ((q : Place) → new q ≡ (if is_at (place_cmp p) q then found else old q))
    → (q : Place) → new q ≡ (if same_place p q then others q else old q)
taken others old new p found e u q =
    u q ∙ ap (λ (b : Bool). if b then found else old q) (place_cmp-same p q)
    ∙ ap (λ (x : Option ℕ). if same_place p q then x else old q) (sym e) ∙ choice_at others p q (old q)

-- ---- ranges

-- what is left of a range once its first place is done
pub range_step : {X : Type 0} (f old new : Place → X) (r : Range) → r.low < r.high
    → ((q : Place) → new q ≡ (if same_place (record { region = r.region; index = r.low }) q then f q else old q))
    → (q : Place) → (if in_range (record r { low = r.low + 1 }) q then f q else new q) ≡ (if in_range r q then f q else old q)
range_step f old new r h e q =
    let first : Bool = same_place (record { region = r.region; index = r.low }) q in
    let rest : Bool = in_range (record r { low = r.low + 1 }) q in
    ap (λ x. if rest then f q else x) (e q) ∙ sym (choice_or first rest (f q) (old q))
    ∙ ap (λ (b : Bool). if b then f q else old q) (sym (span_step r.region q.region r.low q.index r.high h))

-- a range with nothing left
pub range_none : {X : Type 0} (f old : Place → X) (r : Range) → r.high ≤ r.low → (q : Place) → (if in_range r q then f q else old q) ≡ old q
range_none f old r h q = ap (λ (b : Bool). if b then f q else old q) (span_none r.region q.region r.low q.index r.high h)

-- the first of a list of ranges done
pub ranges_step : {X : Type 0} (f old new : Place → X) (r : Range) (rs : List Range)
    → ((q : Place) → new q ≡ (if in_range r q then f q else old q))
    → (q : Place) → (if in_ranges rs q then f q else new q) ≡ (if in_ranges (r ∷ rs) q then f q else old q)
ranges_step f old new r rs e q =
    ap (λ x. if in_ranges rs q then f q else x) (e q) ∙ sym (choice_or (in_range r q) (in_ranges rs q) (f q) (old q))

pub choice_true : (a b : Bool) → (if a then true else b) ≡ (a || b)
choice_true true b = refl
choice_true false b = refl

-- ---- regions

pub region_choice : (n k : ℕ) (b : Bool) (x all old new : Option ℕ) → new ≡ (if (n == k) && b then x else old)
    → old ≡ (if nat_lt k n then all else None) → (k ≡ n → all ≡ (if b then x else None)) → new ≡ (if nat_lt k (n + 1) then all else None)
region_choice n k b x all old new e o h = grind (arith, nat_tests)

-- all regions done
pub all_regions : (regions : List Region) (n : ℕ) → length regions ≤ n → (q : Place)
    → (if nat_lt q.region n then initial regions q else None) ≡ initial regions q
all_regions regions n h q =
    cond_both (nat_lt q.region n) (initial regions q) None (λ (x : Option ℕ). x ≡ initial regions q) (λ (e : nat_lt q.region n ≡ true). refl)
    (λ (e : nat_lt q.region n ≡ false).
    let past : length regions ≤ q.region = grind (arith, nat_tests) in
    sym (ap (λ (o : Option Region). initial_word o q.index) (slice_get_past regions q.region past)))
