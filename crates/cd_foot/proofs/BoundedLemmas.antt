-- A set of places with a bound has a least place: a search below a bound, over indices and then over regions.
use Rattle.std.proofs.Common.{◌≡◌, ℕ, zero, suc, ◌<◌, ◌⊎◌, Bool, true, false, Option, None, Some, refl, inl, inr, subst, sym, arith}
use Rattle.std.proofs.lemmas.Bool.{true≢false}
use Rattle.std.proofs.lemmas.Bool.Decides.{nat_tests}
use Rattle.cd_base.specs.declared.place.Place.{Place}
use Rattle.cd_base.specs.Words.{PlaceSet}
use Rattle.cd_base.specs.Places.{IsLeast, stands_before}
use Rattle.cd_foot.specs.Bounded.{IsBounded}

-- ---- the least number below a bound

-- it holds, or it does not
abbrev Decided : Type 0 → Type 0
Decided P = P ⊎ (P → ⊥)

-- no number below n has the property
abbrev NoneBelow : (ℕ → Type 0) → ℕ → Type 0
NoneBelow P n = (k : ℕ) → k < n → P k → ⊥

-- the least number below n that has the property, or none has it
abbrev LeastBelow : (ℕ → Type 0) → ℕ → Type 0
LeastBelow P n = NoneBelow P n ⊎ ((k : ℕ) × (k < n) × P k × NoneBelow P k)

same_or_less : (k n : ℕ) → k < suc n → (k ≡ n) ⊎ (k < n)
same_or_less k n below = grind (arith, below)

none_more : (P : ℕ → Type 0) (n : ℕ) → NoneBelow P n → (P n → ⊥) → NoneBelow P (suc n)
none_more P n none here k below holds =
    elim (same_or_less k n below) as (λ _. ⊥) [ inl same ↦ here (subst P same holds) | inr less ↦ none k less holds ]

one_more : (P : ℕ → Type 0) (n : ℕ) → LeastBelow P n → Decided (P n) → LeastBelow P (suc n)
one_more P n (inr found) decided = inr (found.0, omega (arith, found.1), found.2, found.3)
one_more P n (inl none) (inl here) = inr (n, omega arith, here, none)
one_more P n (inl none) (inr not) = inl (none_more P n none not)

least_below : (P : ℕ → Type 0) → ((k : ℕ) → Decided (P k)) → (n : ℕ) → LeastBelow P n
least_below P decided zero = inl (λ k below holds. absurd (omega (arith, below)))
least_below P decided (suc n) = one_more P n (least_below P decided n) (decided n)

-- ---- the least place

-- the set has the place with this region and this index
abbrev Has : PlaceSet → ℕ → ℕ → Type 0
Has places region index = places (record { region = region; index = index }) ≡ true

is_in : (b : Bool) → Decided (b ≡ true)
is_in true = inl refl
is_in false = inr (λ e. true≢false (sym e))

is_out : (b : Bool) → (b ≡ true → ⊥) → b ≡ false
is_out true never = absurd (never refl)
is_out false never = refl

-- the set has a place in this region, at one of the first n indices, and none before it there
abbrev HasInRegion : PlaceSet → ℕ → ℕ → Type 0
HasInRegion places n region = (index : ℕ) × (index < n) × Has places region index × NoneBelow (Has places region) index

in_region : (places : PlaceSet) (n region : ℕ) → Decided (HasInRegion places n region)
in_region places n region = go (least_below (Has places region) (λ index. is_in (places (record { region = region; index = index }))) n)
  where
    go : LeastBelow (Has places region) n → Decided (HasInRegion places n region)
    go (inl none) = inr (λ has. none has.0 has.1 has.2)
    go (inr found) = inl found

least_index : (places : PlaceSet) (n region index : ℕ) → index < n → Has places region index → HasInRegion places n region
least_index places n region index below has =
    elim (in_region places n region) as (λ _. HasInRegion places n region) [
      | inl found ↦ found
      | inr never ↦ absurd (searched (least_below (Has places region) (λ i. is_in (places (record { region = region; index = i }))) n) never)
    ]
  where
    searched : LeastBelow (Has places region) n → (HasInRegion places n region → ⊥) → ⊥
    searched (inl none) never = none index below has
    searched (inr found) never = never found

-- a place of the same region or a later one, and in the same region at no smaller index, does not stand before
not_before : (p q : Place) → (q.region < p.region → ⊥) → (q.region ≡ p.region → q.index < p.index → ⊥) → stands_before q p ≡ false
not_before p q region index = is_out (stands_before q p) (λ before. apart (later before))
  where
    later : stands_before q p ≡ true → (q.region < p.region) ⊎ ((q.region ≡ p.region) × (q.index < p.index))
    later before = grind (before, arith, nat_tests)

    apart : (q.region < p.region) ⊎ ((q.region ≡ p.region) × (q.index < p.index)) → ⊥
    apart (inl less) = region less
    apart (inr same) = index same.0 same.1

pub bounded_has_least : (places : PlaceSet) → IsBounded places → (answer : Option Place) × IsLeast places answer
bounded_has_least places bounded = go (least_below (HasInRegion places bounded.indices) (in_region places bounded.indices) bounded.regions)
  where
    lies : (q : Place) → places q ≡ true → HasInRegion places bounded.indices q.region
    lies q has = least_index places bounded.indices q.region q.index (bounded.within q has).1 has

    go : LeastBelow (HasInRegion places bounded.indices) bounded.regions → (answer : Option Place) × IsLeast places answer
    go (inl none) = (None, λ q. is_out (places q) (λ has. none q.region (bounded.within q has).0 (lies q has)))
    go (inr found) =
        let index = found.2.0 in
        let p : Place = record { region = found.0; index = index } in (
          Some p,
          (
            found.2.2,
            λ q has.
                not_before p q (λ less. found.3 q.region less (lies q has))
                (λ same less. found.2.3 q.index less (subst (λ (r : ℕ). Has places r q.index) same has)),
          ),
        )
