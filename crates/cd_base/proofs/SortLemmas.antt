-- Ranges put in order by their beginnings: what a sort gives, and the set that a pass over them makes.
use Rattle.std.proofs.Common.{◌≡◌, ℕ, suc, ◌<◌, ◌≤◌, Bool, true, false, ◌&&◌, ◌||◌, nat_lt, ◌==◌, List, [], ◌∷◌, length, get_or, All, refl, sym, ap, subst, ◌∙◌, arith}
use Rattle.std.proofs.lemmas.Bool.Decides.{nat_tests}
use Rattle.std.proofs.lemmas.Bool.{or_from, or_parts}
use Rattle.std.proofs.lemmas.List.Elements.{All-nil, All-cons}
use Rattle.std.proofs.lemmas.List.Sorted.{ranks_by, sorted_far, All-permutation, IsPermutation-sym, length_permutation}
use Rattle.std.proofs.lemmas.Cmp.{nat_cmp_total, on_total, then_total}
use Rattle.std.specs.declared.cmp.Ordering.{Ordering}
use Rattle.std.specs.Ordering.{nat_cmp, ordering_then, is_lt}
use Rattle.std.specs.Cmp.{IsTotalOrder}
use Rattle.std.specs.List.Sorted.{IsPermutation, IsSortedByKey}
use Rattle.cd_base.specs.declared.place.Place.{Place}
use Rattle.cd_base.specs.declared.place.Range.{Range}
use Rattle.cd_base.specs.Words.{in_range, in_ranges}
use Rattle.cd_base.specs.Places.{IsOrdered, begins_before, united}
use Rattle.cd_base.proofs.UnionLemmas.{NoneBegins, ByStart, united_places, united_order, united_few}

-- ---- the key

abbrev pub begin_of : Range → ℕ × ℕ
begin_of range = (range.region, range.low)

abbrev pub begin_cmp : (ℕ × ℕ) → (ℕ × ℕ) → Ordering
begin_cmp x y = ordering_then (nat_cmp x.0 y.0) (nat_cmp x.1 y.1)

begin_total : IsTotalOrder begin_cmp
begin_total = then_total (on_total (λ (x : ℕ × ℕ). x.0) nat_cmp_total) (on_total (λ (x : ℕ × ℕ). x.1) nat_cmp_total)

begins_is : (a b i j : ℕ) → is_lt (ordering_then (nat_cmp a b) (nat_cmp i j)) ≡ (nat_lt a b || ((a == b) && nat_lt i j))
begins_is a b i j = grind (arith, nat_tests)

-- ---- by their beginnings

abbrev NoneEarlier : List Range → Type 0
NoneEarlier xs = (i j : ℕ) (d : Range) → i ≤ j → j < length xs → begins_before (get_or xs j d) (get_or xs i d) ≡ false

none_begins : (r : Range) (xs : List Range) → ((k : ℕ) (d : Range) → k < length xs → begins_before (get_or xs k d) r ≡ false) → NoneBegins r xs
none_begins r [] none = tt
none_begins r (x ∷ xs) none = (none 0 x (omega arith), none_begins r xs (λ k d short. none (suc k) d (omega arith)))

by_start_from : (xs : List Range) → All (λ (r : Range). r.low < r.high) xs → NoneEarlier xs → ByStart xs
by_start_from [] some far = tt
by_start_from (x ∷ xs) some far = (
  some 0 x (omega arith),
  none_begins x xs (λ k d short. far 0 (suc k) d (omega arith) (omega arith)),
  by_start_from xs (λ k d short. some (suc k) d (omega arith)) (λ i j d at short. far (suc i) (suc j) d (omega arith) (omega arith)),
)

by_start_sorted : (xs : List Range) → All (λ (r : Range). r.low < r.high) xs → IsSortedByKey begin_of begin_cmp xs → ByStart xs
by_start_sorted xs some up =
    by_start_from xs some (λ i j d at short.
    sym (begins_is (get_or xs j d).region (get_or xs i d).region (get_or xs j d).low (get_or xs i d).low)
    ∙ sorted_far (λ (x : Range) (y : Range). is_lt (begin_cmp (begin_of x) (begin_of y))) (ranks_by begin_total begin_of) xs up i j d at short)

-- ---- a list in another order has the same places

none_there : (xs : List Range) (q : Place) → in_ranges xs q ≡ false → All (λ (r : Range). in_range r q ≡ false) xs
none_there [] q none = All-nil (λ (r : Range). in_range r q ≡ false)
none_there (x ∷ xs) q none =
    let parts : (in_range x q ≡ false) × (in_ranges xs q ≡ false) = or_parts (in_range x q) (in_ranges xs q) none in
    All-cons (λ (r : Range). in_range r q ≡ false) x xs parts.0 (none_there xs q parts.1)

there_none : (xs : List Range) (q : Place) → All (λ (r : Range). in_range r q ≡ false) xs → in_ranges xs q ≡ false
there_none [] q none = refl
there_none (x ∷ xs) q none =
    or_from (in_range x q) (in_ranges xs q) (none 0 x (omega arith)) (there_none xs q (λ k d short. none (suc k) d (omega arith)))

moved_none : (xs ys : List Range) (q : Place) → IsPermutation xs ys → in_ranges xs q ≡ false → in_ranges ys q ≡ false
moved_none xs ys q moved none =
    there_none ys q (All-permutation (λ (r : Range). in_range r q ≡ false) xs ys moved (none_there xs q none))

same_unless : (a b : Bool) → (a ≡ false → b ≡ false) → (b ≡ false → a ≡ false) → a ≡ b
same_unless true true into back = refl
same_unless true false into back = back refl
same_unless false b into back = sym (into refl)

moved_places : (xs ys : List Range) (q : Place) → IsPermutation xs ys → in_ranges ys q ≡ in_ranges xs q
moved_places xs ys q moved =
    same_unless (in_ranges ys q) (in_ranges xs q) (moved_none ys xs q (IsPermutation-sym xs ys moved)) (moved_none xs ys q moved)

-- ---- the set

-- ranges in order by their beginnings, which were others in another order
pub record IsInOrder (old new : List Range) : Type 0 where
  pub starts : ByStart new
  pub moved : IsPermutation old new

pub in_order : (old new : List Range) → All (λ (r : Range). r.low < r.high) old → IsPermutation old new → IsSortedByKey begin_of begin_cmp new → IsInOrder old new
in_order old new some moved up = record {
  starts = by_start_sorted new (All-permutation (λ (r : Range). r.low < r.high) old new moved some) up;
  moved = moved;
}

pub IsOrdered-sorted : (old new all : List Range) → IsInOrder old new → all ≡ united new → IsOrdered all
IsOrdered-sorted old new all is e = subst IsOrdered (sym e) (united_order new is.starts)

pub in_ranges-sorted : (old new all : List Range) (q : Place) → IsInOrder old new → all ≡ united new → in_ranges all q ≡ in_ranges old q
in_ranges-sorted old new all q is e = ap (λ (l : List Range). in_ranges l q) e ∙ united_places new q is.starts ∙ moved_places old new q is.moved

pub length-sorted : (old new all : List Range) → IsInOrder old new → all ≡ united new → length all ≤ length old
length-sorted old new all is e = omega (arith, ap length e, united_few new, length_permutation old new is.moved)
