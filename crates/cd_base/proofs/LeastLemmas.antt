-- Lemmas on the least place of two lists of ranges, as both are passed from the front.
use Rattle.std.proofs.Common.{◌≡◌, ℕ, ◌<◌, ◌≤◌, Bool, true, false, not, ◌&&◌, ◌||◌, nat_lt, nat_le, ◌==◌, List, [], ◌∷◌, max, Option, Some, None, refl, sym, ap, ◌∙◌, subst, arith}
use Rattle.std.proofs.lemmas.Bool.Decides.{nat_tests}
use Rattle.std.proofs.lemmas.Bool.{or_from, or_left, or_parts, and_from, and_parts, false_from_ne_true, true≢false}
use Rattle.cd_base.specs.declared.place.Place.{Place}
use Rattle.cd_base.specs.declared.place.Range.{Range}
use Rattle.cd_base.specs.Words.{PlaceSet, in_range, in_ranges}
use Rattle.cd_base.specs.Places.{IsOrdered, begins_before, ends_before, stands_before, IsLeast, in_both, in_second_alone}
use Rattle.cd_base.proofs.BoolLemmas.{and-none}
use Rattle.cd_base.proofs.PlaceLemmas.{place-same}
use Rattle.cd_base.proofs.RangeLemmas.{in_ranges-after, low_in, low_out, low_before_end, end_out, end_at}

-- ---- tests

pass_left : (a b c : Bool) → (a ≡ true → c ≡ false) → (b && c) ≡ ((a || b) && c)
pass_left true b c h = rw (h refl) (and-none b)
pass_left false b c h = refl

pass_right : (a b c : Bool) → (a ≡ true → c ≡ false) → (c && b) ≡ (c && (a || b))
pass_right true b c h = rw (h refl) refl
pass_right false b c h = refl

pass_first_alone : (a b c : Bool) → (a ≡ true → c ≡ false) → (c && not b) ≡ (c && not (a || b))
pass_first_alone true b c h = rw (h refl) refl
pass_first_alone false b c h = refl

pass_second_alone : (a b c : Bool) → (a ≡ true → c ≡ true) → (b && not c) ≡ ((a || b) && not c)
pass_second_alone true b c h = rw (h refl) (and-none b)
pass_second_alone false b c h = refl

alone_true : (a b : Bool) → a ≡ true → b ≡ false → (a && not b) ≡ true
alone_true a b h k = rw (h, k) refl

not_true : (a b : Bool) → (a && not b) ≡ true → b ≡ false
not_true true true h = sym h
not_true true false h = refl
not_true false b h = absurd (true≢false (sym h))

-- ---- numbers of places and ranges

before_next : (rr rl rh sr sl pr pi : ℕ) → (nat_lt rr sr || ((rr == sr) && nat_le rh sl)) ≡ true → ((rr == pr) && (nat_le rl pi && nat_lt pi rh)) ≡ true
    → (nat_lt pr sr || ((pr == sr) && nat_lt pi sl)) ≡ true
before_next rr rl rh sr sl pr pi h k = grind (arith, nat_tests)

overlap : (rr rl rh sr sl sh : ℕ) → rl < rh → sl < sh → (nat_lt rr sr || ((rr == sr) && nat_le rh sl)) ≡ false
    → (nat_lt sr rr || ((sr == rr) && nat_le sh rl)) ≡ false → (rr ≡ sr) × (sl < rh) × (rl < sh)
overlap rr rl rh sr sl sh h k p q = (grind (arith, nat_tests), grind (arith, nat_tests), grind (arith, nat_tests))

later_in : (a b i j k : ℕ) → a ≡ b → i < j → k < j → ((a == b) && (nat_le i (max i k) && nat_lt (max i k) j)) ≡ true
later_in a b i j k e h p = grind (arith, nat_tests)

later_in_other : (a b i j k : ℕ) → a ≡ b → i < j → k < j → ((a == b) && (nat_le i (max k i) && nat_lt (max k i) j)) ≡ true
later_in_other a b i j k e h p = grind (arith, nat_tests)

later_least : (qr qi rr sr rl sl : ℕ) → rr ≡ sr → (nat_lt qr rr || ((qr == rr) && nat_lt qi rl)) ≡ false → (nat_lt qr sr || ((qr == sr) && nat_lt qi sl)) ≡ false
    → (nat_lt qr rr || ((qr == rr) && nat_lt qi (max rl sl))) ≡ false
later_least qr qi rr sr rl sl e h k = grind (arith, nat_tests)

begins_within : (rr rl rh sr sl : ℕ) → (nat_lt rr sr || ((rr == sr) && nat_le rh sl)) ≡ false → (nat_lt sr rr || ((sr == rr) && nat_lt sl rl)) ≡ false
    → (rr ≡ sr) × (rl ≤ sl) × (sl < rh)
begins_within rr rl rh sr sl p q = (grind (arith, nat_tests), grind (arith, nat_tests), grind (arith, nat_tests))

within : (rr rl rh sr sl sh pr pi : ℕ) → rr ≡ sr → rl ≤ sl → sh ≤ rh → ((sr == pr) && (nat_le sl pi && nat_lt pi sh)) ≡ true
    → ((rr == pr) && (nat_le rl pi && nat_lt pi rh)) ≡ true
within rr rl rh sr sl sh pr pi e h k p = grind (arith, nat_tests)

end_within : (rr sr sl sh rh : ℕ) → rr ≡ sr → sl < rh → rh < sh → ((sr == rr) && (nat_le sl rh && nat_lt rh sh)) ≡ true
end_within rr sr sl sh rh e h k = grind (arith, nat_tests)

end_least : (qr qi rr rl rh sr sl : ℕ) → rr ≡ sr → rl ≤ sl → (nat_lt qr sr || ((qr == sr) && nat_lt qi sl)) ≡ false
    → ((rr == qr) && (nat_le rl qi && nat_lt qi rh)) ≡ false → (nat_lt qr rr || ((qr == rr) && nat_lt qi rh)) ≡ false
end_least qr qi rr rl rh sr sl e h k p = grind (arith, nat_tests)

-- ---- ranges in order

abbrev start_of : Range → Place
start_of r = record { region = r.region; index = r.low }

abbrev end_of : Range → Place
end_of r = record { region = r.region; index = r.high }

abbrev later_of : Range → Range → Place
later_of r s = record { region = r.region; index = max r.low s.low }

-- a place before the first range is in none
before_first : (s : Range) (ss : List Range) (q : Place) → IsOrdered (s ∷ ss) → stands_before q (start_of s) ≡ true → in_ranges (s ∷ ss) q ≡ false
before_first s ss q o h =
    or_from (in_range s q) (in_ranges ss q) (low_out q.region s.region q.index s.low s.high h)
    (in_ranges-after s ss q (low_before_end q.region s.region q.index s.low s.high o.0 h) o.1)

-- no place of ranges in order stands before the first of them
not_before_first : (s : Range) (ss : List Range) (q : Place) → IsOrdered (s ∷ ss) → in_ranges (s ∷ ss) q ≡ true → stands_before q (start_of s) ≡ false
not_before_first s ss q o h = false_from_ne_true _ (λ (e : stands_before q (start_of s) ≡ true). true≢false (sym h ∙ before_first s ss q o e))

-- a range that ends before others begin has none of their places
apart : (r s : Range) (ss : List Range) (q : Place) → IsOrdered (s ∷ ss) → ends_before r s ≡ true → in_range r q ≡ true → in_ranges (s ∷ ss) q ≡ false
apart r s ss q o h k = before_first s ss q o (before_next r.region r.low r.high s.region s.low q.region q.index h k)

-- ---- what is left of two lists

-- what is left of two lists is in order, and has the same places of this kind as the whole
pub record Left (places : List Range → List Range → PlaceSet) (all more rest left : List Range) : Type 0 where
  pub first : IsOrdered rest
  pub second : IsOrdered left
  pub same : (q : Place) → places rest left q ≡ places all more q

-- a set of two lists by a test of a place in each
abbrev mixed : (Bool → Bool → Bool) → List Range → List Range → PlaceSet
mixed mix rs ss q = mix (in_ranges rs q) (in_ranges ss q)

-- the first range of one list is passed: the places stay the same, where the test does not need it
passed_first : (mix : Bool → Bool → Bool) → ((a b c : Bool) → (a ≡ true → c ≡ false) → mix b c ≡ mix (a || b) c)
    → {all more xs ys rs ss : List Range} {r s : Range} → xs ≡ r ∷ rs → ys ≡ s ∷ ss → Left (mixed mix) all more xs ys
    → ends_before r s ≡ true → Left (mixed mix) all more rs ys
passed_first mix pass {all} {more} {xs} {ys} {rs} {ss} {r} {s} e f h k =
    let step : (q : Place) → mixed mix rs ys q ≡ mixed mix xs ys q =
    λ q. rw (e, f) (pass (in_range r q) (in_ranges rs q) (in_ranges (s ∷ ss) q) (apart r s ss q (subst IsOrdered f h.second) k)) in
    record { first = (subst IsOrdered e h.first).2; second = h.second; same = λ q. step q ∙ h.same q }

-- and of the other
passed_second : (mix : Bool → Bool → Bool) {all more xs ys ss : List Range} {s : Range} → ys ≡ s ∷ ss → Left (mixed mix) all more xs ys
    → ((q : Place) → mix (in_ranges xs q) (in_ranges ss q) ≡ mix (in_ranges xs q) (in_range s q || in_ranges ss q)) → Left (mixed mix) all more xs ss
passed_second mix {all} {more} {xs} {ys} {ss} {s} f h pass =
    let step : (q : Place) → mixed mix xs ss q ≡ mixed mix xs ys q = λ q. rw f (pass q) in
    record { first = h.first; second = (subst IsOrdered f h.second).2; same = λ q. step q ∙ h.same q }

-- the same places have the same least place
pub IsLeast-of : (P Q : PlaceSet) (answer : Option Place) → ((q : Place) → P q ≡ Q q) → IsLeast P answer → IsLeast Q answer
IsLeast-of P Q None same h = λ q. sym (same q) ∙ h q
IsLeast-of P Q (Some p) same h = (sym (same p) ∙ h.0, λ q e. h.1 q (same q ∙ e))

-- the least place of what is left, written as a place, is that of the whole
least_left : {places : List Range → List Range → PlaceSet} {all more xs ys : List Range} (at p : Place) → Left places all more xs ys
    → p.region ≡ at.region → p.index ≡ at.index → IsLeast (places xs ys) (Some at) → IsLeast (places all more) (Some p)
least_left {places} {all} {more} {xs} {ys} at p h region index here =
    subst (λ (a : Place). IsLeast (places all more) (Some a)) (sym (place-same p at region index))
    (IsLeast-of (places xs ys) (places all more) (Some at) h.same here)

-- ---- places of both

pub Left-common_first : {all more xs ys rs ss : List Range} {r s : Range} → xs ≡ r ∷ rs → ys ≡ s ∷ ss
    → Left in_both all more xs ys → ends_before r s ≡ true → Left in_both all more rs ys
Left-common_first e f h k = passed_first (λ a b. a && b) pass_left e f h k

pub Left-common_second : {all more xs ys rs ss : List Range} {r s : Range} → xs ≡ r ∷ rs → ys ≡ s ∷ ss
    → Left in_both all more xs ys → ends_before s r ≡ true → Left in_both all more xs ss
Left-common_second {all} {more} {xs} {ys} {rs} {ss} {r} {s} e f h k =
    passed_second (λ a b. a && b) f h
    (λ q. rw e (pass_right (in_range s q) (in_ranges ss q) (in_ranges (r ∷ rs) q) (apart s r rs q (subst IsOrdered e h.first) k)))

common_here : (r : Range) (rs : List Range) (s : Range) (ss : List Range) → IsOrdered (r ∷ rs) → IsOrdered (s ∷ ss) → ends_before r s ≡ false → ends_before s r ≡ false
    → IsLeast (in_both (r ∷ rs) (s ∷ ss)) (Some (later_of r s))
common_here r rs s ss o u h k =
    let p = later_of r s in
    let m = overlap r.region r.low r.high s.region s.low s.high o.0 u.0 h k in
    let one : in_range r p ≡ true = later_in r.region r.region r.low r.high s.low refl o.0 m.1 in
    let two : in_range s p ≡ true = later_in_other s.region r.region s.low s.high r.low (sym m.0) u.0 m.2 in (
      and_from _ _ (or_left (in_range r p) (in_ranges rs p) one) (or_left (in_range s p) (in_ranges ss p) two),
      (λ q e.
          later_least q.region q.index r.region s.region r.low s.low m.0 (not_before_first r rs q o (and_parts _ _ e).0) (not_before_first s ss q u (and_parts _ _ e).1)),
    )

pub IsLeast-common : {all more xs ys rs ss : List Range} {r s : Range} (p : Place) → xs ≡ r ∷ rs → ys ≡ s ∷ ss
    → Left in_both all more xs ys → ends_before r s ≡ false → ends_before s r ≡ false → p.region ≡ r.region → p.index ≡ max r.low s.low
    → IsLeast (in_both all more) (Some p)
IsLeast-common {all} {more} {xs} {ys} {rs} {ss} {r} {s} p e f h k l region index =
    least_left (later_of r s) p h region index
    (rw (e, f) (common_here r rs s ss (subst IsOrdered e h.first) (subst IsOrdered f h.second) k l))

pub IsLeast-none_first : (all more xs ys : List Range) → xs ≡ [] → Left in_both all more xs ys → IsLeast (in_both all more) None
IsLeast-none_first all more xs ys e h = λ q. sym (h.same q) ∙ ap (λ (l : List Range). in_both l ys q) e

pub IsLeast-none_second : (all more xs ys : List Range) → ys ≡ [] → Left in_both all more xs ys → IsLeast (in_both all more) None
IsLeast-none_second all more xs ys e h = λ q. sym (h.same q) ∙ ap (λ (l : List Range). in_both xs l q) e ∙ and-none (in_ranges xs q)

-- ---- places of the second alone

pub Left-alone_first : {all more xs ys rs ss : List Range} {r s : Range} → xs ≡ r ∷ rs → ys ≡ s ∷ ss
    → Left in_second_alone all more xs ys → ends_before r s ≡ true → Left in_second_alone all more rs ys
Left-alone_first e f h k = passed_first (λ a b. b && not a) pass_first_alone e f h k

pub Left-alone_second : {all more xs ys rs ss : List Range} {r s : Range} → xs ≡ r ∷ rs → ys ≡ s ∷ ss
    → Left in_second_alone all more xs ys → ends_before r s ≡ false → begins_before s r ≡ false → s.high ≤ r.high → Left in_second_alone all more xs ss
Left-alone_second {all} {more} {xs} {ys} {rs} {ss} {r} {s} e f h k l high =
    let m = begins_within r.region r.low r.high s.region s.low k l in
    let inside : (q : Place) → in_range s q ≡ true → in_ranges (r ∷ rs) q ≡ true =
    λ q i. or_left (in_range r q) (in_ranges rs q) (within r.region r.low r.high s.region s.low s.high q.region q.index m.0 m.1 high i) in
    passed_second (λ a b. b && not a) f h
    (λ q. rw e (pass_second_alone (in_range s q) (in_ranges ss q) (in_ranges (r ∷ rs) q) (inside q)))

alone_at_start : (xs : List Range) (s : Range) (ss : List Range) → IsOrdered (s ∷ ss) → in_ranges xs (start_of s) ≡ false
    → IsLeast (in_second_alone xs (s ∷ ss)) (Some (start_of s))
alone_at_start xs s ss u h =
    let p = start_of s in
    (alone_true _ _ (or_left (in_range s p) (in_ranges ss p) (low_in s.region s.low s.high u.0)) h, (λ q e. not_before_first s ss q u (and_parts _ _ e).0))

alone_at_end : (r : Range) (rs : List Range) (s : Range) (ss : List Range) → IsOrdered (r ∷ rs) → IsOrdered (s ∷ ss) → ends_before r s ≡ false → begins_before s r ≡ false
    → r.high < s.high → IsLeast (in_second_alone (r ∷ rs) (s ∷ ss)) (Some (end_of r))
alone_at_end r rs s ss o u h k high =
    let p = end_of r in
    let m = begins_within r.region r.low r.high s.region s.low h k in
    let inside : in_range s p ≡ true = end_within r.region s.region s.low s.high r.high m.0 m.2 high in
    let outside : in_ranges (r ∷ rs) p ≡ false =
    or_from (in_range r p) (in_ranges rs p) (end_out r.region r.low r.high) (in_ranges-after r rs p (end_at r.region r.high) o.1) in (
      alone_true _ _ (or_left (in_range s p) (in_ranges ss p) inside) outside,
      (λ q e.
          end_least q.region q.index r.region r.low r.high s.region s.low m.0 m.1 (not_before_first s ss q u (and_parts _ _ e).0)
          (or_parts (in_range r q) (in_ranges rs q) (not_true _ _ e)).0),
    )

pub IsLeast-alone_last : {all more xs ys ss : List Range} {s : Range} (p : Place) → xs ≡ [] → ys ≡ s ∷ ss
    → Left in_second_alone all more xs ys → p.region ≡ s.region → p.index ≡ s.low → IsLeast (in_second_alone all more) (Some p)
IsLeast-alone_last {all} {more} {xs} {ys} {ss} {s} p e f h region index =
    least_left (start_of s) p h region index (rw (e, f) (alone_at_start [] s ss (subst IsOrdered f h.second) refl))

pub IsLeast-alone_start : {all more xs ys rs ss : List Range} {r s : Range} (p : Place) → xs ≡ r ∷ rs → ys ≡ s ∷ ss
    → Left in_second_alone all more xs ys → begins_before s r ≡ true → p.region ≡ s.region → p.index ≡ s.low → IsLeast (in_second_alone all more) (Some p)
IsLeast-alone_start {all} {more} {xs} {ys} {rs} {ss} {r} {s} p e f h k region index =
    least_left (start_of s) p h region index
    (rw (e, f) (alone_at_start (r ∷ rs) s ss (subst IsOrdered f h.second) (before_first r rs (start_of s) (subst IsOrdered e h.first) k)))

pub IsLeast-alone_end : {all more xs ys rs ss : List Range} {r s : Range} (p : Place) → xs ≡ r ∷ rs → ys ≡ s ∷ ss
    → Left in_second_alone all more xs ys → ends_before r s ≡ false → begins_before s r ≡ false → r.high < s.high → p.region ≡ r.region → p.index ≡ r.high
    → IsLeast (in_second_alone all more) (Some p)
IsLeast-alone_end {all} {more} {xs} {ys} {rs} {ss} {r} {s} p e f h k l high region index =
    least_left (end_of r) p h region index
    (rw (e, f) (alone_at_end r rs s ss (subst IsOrdered e h.first) (subst IsOrdered f h.second) k l high))

pub IsLeast-none_alone : (all more xs ys : List Range) → ys ≡ [] → Left in_second_alone all more xs ys → IsLeast (in_second_alone all more) None
IsLeast-none_alone all more xs ys e h = λ q. sym (h.same q) ∙ ap (λ (l : List Range). in_second_alone xs l q) e
