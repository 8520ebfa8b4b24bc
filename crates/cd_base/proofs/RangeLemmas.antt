-- Lemmas on sets of places that are lists of ranges.
use Rattle.std.proofs.Common.{◌≡◌, ℕ, ◌+◌, ◌<◌, ◌≤◌, Bool, true, false, ◌&&◌, ◌||◌, nat_lt, nat_le, ◌==◌, List, [], ◌∷◌, ◌++◌, length, min, max, Option, Some, None, refl, sym, ap, ◌∙◌, subst, inl, inr, arith}
use Rattle.std.proofs.lemmas.Bool.Decides.{nat_tests}
use Rattle.std.proofs.lemmas.Bool.{cond_both, cases_Bool, or_from, or_left, false_from_ne_true, true≢false}
use Rattle.cd_base.specs.declared.place.Place.{Place}
use Rattle.cd_base.specs.declared.place.Range.{Range}
use Rattle.cd_base.specs.Words.{PlaceSet, in_range, in_ranges}
use Rattle.cd_base.specs.Places.{is_before, IsBeforeAll, IsOrdered, hull, with_range, stands_before, IsLeast}
use Rattle.cd_base.proofs.BoolLemmas.{or-assoc, or-swap, and-or}
use Rattle.cd_base.proofs.PlaceLemmas.{place-same, range-same}

-- ---- tests on numbers

-- two spans that overlap or touch make one span
spans_meet : (a b c d i : ℕ) → a < b → c < d → a ≤ d → c ≤ b
    → (nat_le (min a c) i && nat_lt i (max b d)) ≡ ((nat_le a i && nat_lt i b) || (nat_le c i && nat_lt i d))
spans_meet a b c d i p q h k = grind (arith, nat_tests)

before_trans : (a b c i k l m : ℕ) → l < m → (nat_lt a b || ((a == b) && nat_lt i l)) ≡ true → (nat_lt b c || ((b == c) && nat_lt m k)) ≡ true
    → (nat_lt a c || ((a == c) && nat_lt i k)) ≡ true
before_trans a b c i k l m h p q = grind (arith, nat_tests)

before_both : (a b c i j k : ℕ) → b ≡ c → (nat_lt a b || ((a == b) && nat_lt i j)) ≡ true → (nat_lt a c || ((a == c) && nat_lt i k)) ≡ true
    → (nat_lt a b || ((a == b) && nat_lt i (min j k))) ≡ true
before_both a b c i j k e p q = grind (arith, nat_tests)

neither_before : (a b i j k l : ℕ) → (nat_lt b a || ((b == a) && nat_lt l i)) ≡ false → (nat_lt a b || ((a == b) && nat_lt j k)) ≡ false
    → (a ≡ b) × (i ≤ l) × (k ≤ j)
neither_before a b i j k l p q = (grind (arith, nat_tests), grind (arith, nat_tests), grind (arith, nat_tests))

-- ---- ranges before one another, and joined

-- two ranges of which neither is before the other are of one region, and overlap or touch
pub is_before-neither : (r s : Range) → is_before s r ≡ false → is_before r s ≡ false → (r.region ≡ s.region) × (r.low ≤ s.high) × (s.low ≤ r.high)
is_before-neither r s p q = neither_before r.region s.region r.low r.high s.low s.high p q

pub is_before-trans : (r s t : Range) → s.low < s.high → is_before r s ≡ true → is_before s t ≡ true → is_before r t ≡ true
is_before-trans r s t h p q = before_trans r.region s.region t.region r.high t.low s.low s.high h p q

pub is_before-hull : (p r s : Range) → r.region ≡ s.region → is_before p r ≡ true → is_before p s ≡ true → is_before p (hull r s) ≡ true
is_before-hull p r s e h k = before_both p.region r.region s.region p.high r.low s.low e h k

pub hull-some : (r s : Range) → r.low < r.high → (hull r s).low < (hull r s).high
hull-some r s h = omega arith

-- the hull of two ranges that overlap or touch has the places of both, and no other
pub in_range-hull : (r s : Range) (p : Place) → r.low < r.high → s.low < s.high → is_before s r ≡ false → is_before r s ≡ false
    → in_range (hull r s) p ≡ (in_range r p || in_range s p)
in_range-hull r s p h k e f =
    let m = is_before-neither r s e f in
    let one = nat_le r.low p.index && nat_lt p.index r.high in
    let two = nat_le s.low p.index && nat_lt p.index s.high in
    ap (λ (b : Bool). (r.region == p.region) && b) (spans_meet r.low r.high s.low s.high p.index h k m.1 m.2)
    ∙ and-or (r.region == p.region) one two
    ∙ ap (λ (n : ℕ). ((r.region == p.region) && one) || ((n == p.region) && two)) m.0

-- ---- lists of ranges

-- a place of two lists, one after the other, is a place of one of them
pub in_ranges-append : (rs ss : List Range) (p : Place) → in_ranges (rs ++ ss) p ≡ (in_ranges rs p || in_ranges ss p)
in_ranges-append [] ss p = refl
in_ranges-append (r ∷ rs) ss p =
    ap (λ (b : Bool). in_range r p || b) (in_ranges-append rs ss p) ∙ sym (or-assoc (in_range r p) (in_ranges rs p) (in_ranges ss p))

pub IsBeforeAll-trans : (r s : Range) (rs : List Range) → s.low < s.high → is_before r s ≡ true → IsBeforeAll s rs → IsBeforeAll r rs
IsBeforeAll-trans r s [] h p q = tt
IsBeforeAll-trans r s (t ∷ rs) h p q = (is_before-trans r s t h p q.0, IsBeforeAll-trans r s rs h p q.1)

-- what is so in each of the three cases of one step
with_range-cases : (P : List Range → Type 0) (r s : Range) (rs : List Range)
    → (is_before s r ≡ true → P (s ∷ with_range r rs))
    → (is_before s r ≡ false → is_before r s ≡ true → P (r ∷ with_range s rs))
    → (is_before s r ≡ false → is_before r s ≡ false → P (with_range (hull r s) rs))
    → P (with_range r (s ∷ rs))
with_range-cases P r s rs after first joined =
    cond_both (is_before s r) _ _ P after (λ (e : is_before s r ≡ false). cond_both (is_before r s) _ _ P (first e) (joined e))

-- a range adds its places, and no other
pub in_ranges-with_range : (r : Range) (rs : List Range) (p : Place) → r.low < r.high → IsOrdered rs
    → in_ranges (with_range r rs) p ≡ (in_range r p || in_ranges rs p)
in_ranges-with_range r [] p h o = refl
in_ranges-with_range r (s ∷ rs) p h o =
    with_range-cases (λ (l : List Range). in_ranges l p ≡ (in_range r p || (in_range s p || in_ranges rs p))) r s rs
    (λ e. ap (λ (b : Bool). in_range s p || b) (in_ranges-with_range r rs p h o.2) ∙ or-swap (in_range s p) (in_range r p) (in_ranges rs p))
    (λ e f. ap (λ (b : Bool). in_range r p || b) (in_ranges-with_range s rs p o.0 o.2))
    (λ e f. in_ranges-with_range (hull r s) rs p (hull-some r s h) o.2
    ∙ ap (λ (b : Bool). b || in_ranges rs p) (in_range-hull r s p h o.0 e f)
    ∙ or-assoc (in_range r p) (in_range s p) (in_ranges rs p))

pub IsBeforeAll-with_range : (p r : Range) (rs : List Range) → is_before p r ≡ true → IsBeforeAll p rs → IsBeforeAll p (with_range r rs)
IsBeforeAll-with_range p r [] h k = (h, tt)
IsBeforeAll-with_range p r (s ∷ rs) h k =
    with_range-cases (IsBeforeAll p) r s rs
    (λ e. (k.0, IsBeforeAll-with_range p r rs h k.1))
    (λ e f. (h, IsBeforeAll-with_range p s rs k.0 k.1))
    (λ e f. IsBeforeAll-with_range p (hull r s) rs (is_before-hull p r s (is_before-neither r s e f).0 h k.0) k.1)

-- ranges in order stay in order
pub IsOrdered-with_range : (r : Range) (rs : List Range) → r.low < r.high → IsOrdered rs → IsOrdered (with_range r rs)
IsOrdered-with_range r [] h o = (h, tt, tt)
IsOrdered-with_range r (s ∷ rs) h o =
    with_range-cases IsOrdered r s rs
    (λ e. (o.0, IsBeforeAll-with_range s r rs e o.1, IsOrdered-with_range r rs h o.2))
    (λ e f. (h, IsBeforeAll-with_range r s rs f (IsBeforeAll-trans r s rs o.0 f o.1), IsOrdered-with_range s rs o.0 o.2))
    (λ e f. IsOrdered-with_range (hull r s) rs (hull-some r s h) o.2)

-- at most one range more
pub length-with_range : (r : Range) (rs : List Range) → length (with_range r rs) ≤ length rs + 1
length-with_range r [] = omega arith
length-with_range r (s ∷ rs) =
    with_range-cases (λ (l : List Range). length l ≤ length (s ∷ rs) + 1) r s rs
    (λ e. omega (arith, length-with_range r rs))
    (λ e f. omega (arith, length-with_range s rs))
    (λ e f. omega (arith, length-with_range (hull r s) rs))

-- both for a list that is known to be this one
pub IsOrdered-new : (r : Range) (rs new : List Range) → new ≡ with_range r rs → r.low < r.high → IsOrdered rs → IsOrdered new
IsOrdered-new r rs new e h o = subst IsOrdered (sym e) (IsOrdered-with_range r rs h o)

pub length-new : (r : Range) (rs old new : List Range) → new ≡ with_range r rs → rs ≡ old → length new ≤ length old + 1
length-new r rs old new e f = omega (arith, length-with_range r rs, ap length e, ap length f)

-- ---- one set, one list

past_one : (pr pi rr rh sr sl sh : ℕ) → (nat_lt pr rr || ((pr == rr) && nat_le pi rh)) ≡ true → (nat_lt rr sr || ((rr == sr) && nat_lt rh sl)) ≡ true
    → ((sr == pr) && (nat_le sl pi && nat_lt pi sh)) ≡ false
past_one pr pi rr rh sr sl sh h k = grind (arith, nat_tests)

-- a place up to the end of a range is in none of those that come after it
pub in_ranges-after : (r : Range) (rs : List Range) (p : Place) → (nat_lt p.region r.region || ((p.region == r.region) && nat_le p.index r.high)) ≡ true
    → IsBeforeAll r rs → in_ranges rs p ≡ false
in_ranges-after r [] p h k = refl
in_ranges-after r (s ∷ rs) p h k =
    or_from (in_range s p) (in_ranges rs p) (past_one p.region p.index r.region r.high s.region s.low s.high h k.0) (in_ranges-after r rs p h k.1)

pub low_in : (a i j : ℕ) → i < j → ((a == a) && (nat_le i i && nat_lt i j)) ≡ true
low_in a i j h = grind (arith, nat_tests)

pub low_out : (a b i k l : ℕ) → (nat_lt a b || ((a == b) && nat_lt i k)) ≡ true → ((b == a) && (nat_le k i && nat_lt i l)) ≡ false
low_out a b i k l h = grind (arith, nat_tests)

pub low_before_end : (a b i k l : ℕ) → k < l → (nat_lt a b || ((a == b) && nat_lt i k)) ≡ true → (nat_lt a b || ((a == b) && nat_le i l)) ≡ true
low_before_end a b i k l p h = grind (arith, nat_tests)

pub end_out : (a i j : ℕ) → ((a == a) && (nat_le i j && nat_lt j j)) ≡ false
end_out a i j = grind (arith, nat_tests)

pub end_at : (a j : ℕ) → (nat_lt a a || ((a == a) && nat_le j j)) ≡ true
end_at a j = grind (arith, nat_tests)

end_in : (a b i j k l : ℕ) → a ≡ b → i ≡ k → i < j → nat_lt j l ≡ true → ((b == a) && (nat_le k j && nat_lt j l)) ≡ true
end_in a b i j k l e f h p = grind (arith, nat_tests)

same_start : (a b i j : ℕ) → (nat_lt a b || ((a == b) && nat_lt i j)) ≡ false → (nat_lt b a || ((b == a) && nat_lt j i)) ≡ false → (a ≡ b) × (i ≡ j)
same_start a b i j h k = (grind (arith, nat_tests), grind (arith, nat_tests))

same_end : (i j : ℕ) → nat_lt i j ≡ false → nat_lt j i ≡ false → i ≡ j
same_end i j h k = grind (arith, nat_tests)

-- lists of the same places: the first range of one does not begin before that of the other
starts_no_earlier : (r s : Range) (rs ss : List Range) → r.low < r.high → s.low < s.high → IsBeforeAll s ss
    → ((p : Place) → in_ranges (r ∷ rs) p ≡ in_ranges (s ∷ ss) p) → (nat_lt r.region s.region || ((r.region == s.region) && nat_lt r.low s.low)) ≡ false
starts_no_earlier r s rs ss h k o same =
    let a : Place = record { region = r.region; index = r.low } in
    let here : in_ranges (r ∷ rs) a ≡ true = or_left (in_range r a) (in_ranges rs a) (low_in r.region r.low r.high h) in
    false_from_ne_true _ (λ (e : (nat_lt r.region s.region || ((r.region == s.region) && nat_lt r.low s.low)) ≡ true).
    let gone : in_ranges (s ∷ ss) a ≡ false = or_from (in_range s a) (in_ranges ss a) (low_out r.region s.region r.low s.low s.high e)
    (in_ranges-after s ss a (low_before_end r.region s.region r.low s.low s.high k e) o) in
    true≢false (sym here ∙ same a ∙ gone))

-- nor does it end before that of the other, where both begin at one place
ends_no_earlier : (r s : Range) (rs ss : List Range) → r.region ≡ s.region → r.low ≡ s.low → r.low < r.high → IsBeforeAll r rs
    → ((p : Place) → in_ranges (r ∷ rs) p ≡ in_ranges (s ∷ ss) p) → nat_lt r.high s.high ≡ false
ends_no_earlier r s rs ss e f h o same =
    let b : Place = record { region = r.region; index = r.high } in
    let gone : in_ranges (r ∷ rs) b ≡ false = or_from (in_range r b) (in_ranges rs b) (end_out r.region r.low r.high)
    (in_ranges-after r rs b (end_at r.region r.high) o) in
    false_from_ne_true _ (λ (p : nat_lt r.high s.high ≡ true).
    let here : in_ranges (s ∷ ss) b ≡ true = or_left (in_range s b) (in_ranges ss b) (end_in r.region s.region r.low r.high s.low s.high e f h p) in
    true≢false (sym here ∙ sym (same b) ∙ gone))

-- the first ranges of two lists of the same places are one range
same_first : (r s : Range) (rs ss : List Range) → IsOrdered (r ∷ rs) → IsOrdered (s ∷ ss) → ((p : Place) → in_ranges (r ∷ rs) p ≡ in_ranges (s ∷ ss) p) → r ≡ s
same_first r s rs ss o u same =
    let back : (p : Place) → in_ranges (s ∷ ss) p ≡ in_ranges (r ∷ rs) p = λ p. sym (same p) in
    let start = same_start r.region s.region r.low s.low (starts_no_earlier r s rs ss o.0 u.0 u.1 same) (starts_no_earlier s r ss rs u.0 o.0 o.1 back) in
    range-same r s start.0 start.1 (same_end r.high s.high (ends_no_earlier r s rs ss start.0 start.1 o.0 o.1 same)
    (ends_no_earlier s r ss rs (sym start.0) (sym start.1) u.0 u.1 back))

inside_end : (a b i k l : ℕ) → ((b == a) && (nat_le k i && nat_lt i l)) ≡ true → (nat_lt a b || ((a == b) && nat_le i l)) ≡ true
inside_end a b i k l h = grind (arith, nat_tests)

-- what is left after the first range has the same places too
same_rest : (r : Range) (rs ss : List Range) (p : Place) → IsBeforeAll r rs → IsBeforeAll r ss → in_ranges (r ∷ rs) p ≡ in_ranges (r ∷ ss) p
    → in_ranges rs p ≡ in_ranges ss p
same_rest r rs ss p o u same = elim (cases_Bool (in_range r p)) as (λ _. in_ranges rs p ≡ in_ranges ss p) [
  | inl e ↦ (let up_to_end = inside_end p.region r.region p.index r.low r.high e in in_ranges-after r rs p up_to_end o ∙ sym (in_ranges-after r ss p up_to_end u))
  | inr e ↦ (ap (λ (b : Bool). b || in_ranges rs p) (sym e) ∙ same ∙ ap (λ (b : Bool). b || in_ranges ss p) e)
]

-- two lists in order that have the same places are one list
pub IsOrdered-same : (rs ss : List Range) → IsOrdered rs → IsOrdered ss → ((p : Place) → in_ranges rs p ≡ in_ranges ss p) → rs ≡ ss
IsOrdered-same [] [] o u same = refl
IsOrdered-same [] (s ∷ ss) o u same =
    let a : Place = record { region = s.region; index = s.low } in
    absurd (true≢false (sym (or_left (in_range s a) (in_ranges ss a) (low_in s.region s.low s.high u.0)) ∙ sym (same a)))
IsOrdered-same (r ∷ rs) [] o u same =
    let a : Place = record { region = r.region; index = r.low } in
    absurd (true≢false (sym (or_left (in_range r a) (in_ranges rs a) (low_in r.region r.low r.high o.0)) ∙ same a))
IsOrdered-same (r ∷ rs) (s ∷ ss) o u same =
    let first = same_first r s rs ss o u same in
    let again = subst (λ (t : Range). (p : Place) → in_ranges (r ∷ rs) p ≡ in_ranges (t ∷ ss) p) (sym first) same in
    let after = subst (λ (t : Range). IsBeforeAll t ss) (sym first) u.1 in
    ap (λ (t : Range). t ∷ rs) first ∙ ap (λ (l : List Range). s ∷ l) (IsOrdered-same rs ss o.2 u.2 (λ p. same_rest r rs ss p o.1 after (again p)))

-- ---- one set, one least place

-- two places of which neither stands before the other are one
pub stands_before-neither : (p q : Place) → stands_before p q ≡ false → stands_before q p ≡ false → p ≡ q
stands_before-neither p q h k =
    let same = same_start p.region q.region p.index q.index h k in
    place-same p q same.0 same.1

-- a set has one least place, or none
pub IsLeast-same : (places : PlaceSet) (one other : Option Place) → IsLeast places one → IsLeast places other → one ≡ other
IsLeast-same places None None h k = refl
IsLeast-same places None (Some q) h k = absurd (true≢false (sym k.0 ∙ h q))
IsLeast-same places (Some p) None h k = absurd (true≢false (sym h.0 ∙ k p))
IsLeast-same places (Some p) (Some q) h k = ap (λ (r : Place). Some r) (stands_before-neither p q (k.1 p h.0) (h.1 q k.0))
