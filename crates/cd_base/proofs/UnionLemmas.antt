-- Lemmas on two lists of ranges as one.
use Rattle.std.proofs.Common.{◌≡◌, ℕ, ◌+◌, ◌<◌, ◌≤◌, Bool, true, false, ◌&&◌, ◌||◌, nat_lt, ◌==◌, List, [], ◌∷◌, length, min, refl, sym, ap, ◌∙◌, subst, arith}
use Rattle.std.proofs.lemmas.Bool.Decides.{nat_tests}
use Rattle.std.proofs.lemmas.Bool.{cond_both}
use Rattle.cd_base.specs.declared.place.Place.{Place}
use Rattle.cd_base.specs.declared.place.Range.{Range}
use Rattle.cd_base.specs.Words.{in_range, in_ranges}
use Rattle.cd_base.specs.Places.{is_before, IsBeforeAll, IsOrdered, hull, begins_before, by_start, united_from, united}
use Rattle.cd_base.proofs.BoolLemmas.{or-none, or-assoc, or-swap}
use Rattle.cd_base.proofs.ListLemmas.{Each}
use Rattle.cd_base.proofs.RangeLemmas.{is_before-trans, is_before-neither, hull-some, in_range-hull}

-- ---- tests and numbers

-- none begins before one that begins before another: t not before s, s not before r
later_trans : (rr rl sr sl tr tl : ℕ) → (nat_lt sr rr || ((sr == rr) && nat_lt sl rl)) ≡ false → (nat_lt tr sr || ((tr == sr) && nat_lt tl sl)) ≡ false
    → (nat_lt tr rr || ((tr == rr) && nat_lt tl rl)) ≡ false
later_trans rr rl sr sl tr tl h k = grind (arith, nat_tests)

later_turned : (rr rl sr sl : ℕ) → (nat_lt sr rr || ((sr == rr) && nat_lt sl rl)) ≡ true → (nat_lt rr sr || ((rr == sr) && nat_lt rl sl)) ≡ false
later_turned rr rl sr sl h = grind (arith, nat_tests)

later_than_before : (rr rl rh sr sl : ℕ) → rl < rh → (nat_lt rr sr || ((rr == sr) && nat_lt rh sl)) ≡ true → (nat_lt sr rr || ((sr == rr) && nat_lt sl rl)) ≡ false
later_than_before rr rl rh sr sl h k = grind (arith, nat_tests)

not_before_earlier : (rr rl sr sl sh : ℕ) → sl < sh → (nat_lt sr rr || ((sr == rr) && nat_lt sl rl)) ≡ false → (nat_lt sr rr || ((sr == rr) && nat_lt sh rl)) ≡ false
not_before_earlier rr rl sr sl sh h k = grind (arith, nat_tests)

later_than_least : (rr rl sl tr tl : ℕ) → (nat_lt tr rr || ((tr == rr) && nat_lt tl rl)) ≡ false → (nat_lt tr rr || ((tr == rr) && nat_lt tl (min rl sl))) ≡ false
later_than_least rr rl sl tr tl h = grind (arith, nat_tests)

-- what is before the earlier of two is before both as one
before_hull : (pr ph rr rl sr sl : ℕ) → rr ≡ sr → (nat_lt sr rr || ((sr == rr) && nat_lt sl rl)) ≡ false → (nat_lt pr rr || ((pr == rr) && nat_lt ph rl)) ≡ true
    → (nat_lt pr rr || ((pr == rr) && nat_lt ph (min rl sl))) ≡ true
before_hull pr ph rr rl sr sl e h k = grind (arith, nat_tests)

-- ---- by their beginnings

-- none of these begins before r
abbrev pub NoneBegins : Range → List Range → Type 0
NoneBegins r rest = Each (λ (s : Range). begins_before s r ≡ false) rest

-- no range is empty, and none begins before one that it comes after
abbrev pub ByStart : List Range → Type 0
ByStart [] = Unit {0}
ByStart (r ∷ rest) = (r.low < r.high) × NoneBegins r rest × ByStart rest

NoneBegins-trans : (r s : Range) (rest : List Range) → begins_before s r ≡ false → NoneBegins s rest → NoneBegins r rest
NoneBegins-trans r s [] h k = tt
NoneBegins-trans r s (t ∷ rest) h k = (later_trans r.region r.low s.region s.low t.region t.low h k.0, NoneBegins-trans r s rest h k.1)

NoneBegins-ordered : (r : Range) (rest : List Range) → r.low < r.high → IsBeforeAll r rest → NoneBegins r rest
NoneBegins-ordered r [] h k = tt
NoneBegins-ordered r (s ∷ rest) h k = (later_than_before r.region r.low r.high s.region s.low h k.0, NoneBegins-ordered r rest h k.1)

pub ByStart-ordered : (rs : List Range) → IsOrdered rs → ByStart rs
ByStart-ordered [] o = tt
ByStart-ordered (r ∷ rs) o = (o.0, NoneBegins-ordered r rs o.0 o.1, ByStart-ordered rs o.2)

NoneBegins-by_start : (p : Range) (rs ss : List Range) → NoneBegins p rs → NoneBegins p ss → NoneBegins p (by_start rs ss)
NoneBegins-by_start p [] ss h k = k
NoneBegins-by_start p (r ∷ rs) [] h k = h
NoneBegins-by_start p (r ∷ rs) (s ∷ ss) h k =
    cond_both (begins_before s r) _ _ (NoneBegins p) (λ e. (k.0, NoneBegins-by_start p (r ∷ rs) ss h k.1))
    (λ e. (h.0, NoneBegins-by_start p rs (s ∷ ss) h.1 k))

pub ByStart-by_start : (rs ss : List Range) → ByStart rs → ByStart ss → ByStart (by_start rs ss)
ByStart-by_start [] ss h k = k
ByStart-by_start (r ∷ rs) [] h k = h
ByStart-by_start (r ∷ rs) (s ∷ ss) h k =
    cond_both (begins_before s r) _ _ ByStart
    (λ (e : begins_before s r ≡ true). let turned : begins_before r s ≡ false = later_turned r.region r.low s.region s.low e in
    (k.0, NoneBegins-by_start s (r ∷ rs) ss (turned, NoneBegins-trans s r rs turned h.1) k.1, ByStart-by_start (r ∷ rs) ss h k.2))
    (λ (e : begins_before s r ≡ false). (h.0, NoneBegins-by_start r rs (s ∷ ss) h.1 (e, NoneBegins-trans r s ss e k.1), ByStart-by_start rs (s ∷ ss) h.2 k))

pub in_ranges-by_start : (rs ss : List Range) (q : Place) → in_ranges (by_start rs ss) q ≡ (in_ranges rs q || in_ranges ss q)
in_ranges-by_start [] ss q = refl
in_ranges-by_start (r ∷ rs) [] q = sym (or-none (in_ranges (r ∷ rs) q))
in_ranges-by_start (r ∷ rs) (s ∷ ss) q =
    cond_both (begins_before s r) _ _ (λ (l : List Range). in_ranges l q ≡ (in_ranges (r ∷ rs) q || in_ranges (s ∷ ss) q))
    (λ e. ap (λ (b : Bool). in_range s q || b) (in_ranges-by_start (r ∷ rs) ss q) ∙ or-swap (in_range s q) (in_ranges (r ∷ rs) q) (in_ranges ss q))
    (λ e. ap (λ (b : Bool). in_range r q || b) (in_ranges-by_start rs (s ∷ ss) q) ∙ sym (or-assoc (in_range r q) (in_ranges rs q) (in_ranges (s ∷ ss) q)))

pub length-by_start : (rs ss : List Range) → length (by_start rs ss) ≡ length rs + length ss
length-by_start [] ss = omega arith
length-by_start (r ∷ rs) [] = omega arith
length-by_start (r ∷ rs) (s ∷ ss) =
    cond_both (begins_before s r) _ _ (λ (l : List Range). length l ≡ length (r ∷ rs) + length (s ∷ ss))
    (λ e. omega (arith, length-by_start (r ∷ rs) ss)) (λ e. omega (arith, length-by_start rs (s ∷ ss)))

by_start-one : (rs : List Range) → by_start rs [] ≡ rs
by_start-one [] = refl
by_start-one (r ∷ rs) = refl

-- ---- the next range of two lists

pub by_start-first : (xs ys : List Range) (r : Range) (rs : List Range) → xs ≡ r ∷ rs → ys ≡ [] → by_start xs ys ≡ r ∷ by_start rs ys
by_start-first xs ys r rs e f = rw (e, f) (ap (λ (l : List Range). r ∷ l) (sym (by_start-one rs)))

pub by_start-second : (xs ys : List Range) (s : Range) (ss : List Range) → xs ≡ [] → ys ≡ s ∷ ss → by_start xs ys ≡ s ∷ by_start xs ss
by_start-second xs ys s ss e f = rw (e, f) refl

pub by_start-other : (xs ys : List Range) (r : Range) (rs : List Range) (s : Range) (ss : List Range) → xs ≡ r ∷ rs → ys ≡ s ∷ ss → begins_before s r ≡ true
    → by_start xs ys ≡ s ∷ by_start xs ss
by_start-other xs ys r rs s ss e f h = rw (e, f) (rw h refl)

pub by_start-one_first : (xs ys : List Range) (r : Range) (rs : List Range) (s : Range) (ss : List Range) → xs ≡ r ∷ rs → ys ≡ s ∷ ss → begins_before s r ≡ false
    → by_start xs ys ≡ r ∷ by_start rs ys
by_start-one_first xs ys r rs s ss e f h = rw (e, f) (rw h refl)

-- ---- joined

NoneBegins-hull : (r s : Range) (rest : List Range) → NoneBegins r rest → NoneBegins (hull r s) rest
NoneBegins-hull r s [] h = tt
NoneBegins-hull r s (t ∷ rest) h = (later_than_least r.region r.low s.low t.region t.low h.0, NoneBegins-hull r s rest h.1)

-- what is so in each of the two cases of one step, from ranges by their beginnings
united_from-cases : (P : List Range → Type 0) (r s : Range) (rest : List Range) → ByStart (r ∷ s ∷ rest)
    → (is_before r s ≡ true → ByStart (s ∷ rest) → P (r ∷ united_from s rest))
    → (is_before s r ≡ false → is_before r s ≡ false → ByStart (hull r s ∷ rest) → P (united_from (hull r s) rest))
    → P (united_from r (s ∷ rest))
united_from-cases P r s rest h first joined =
    cond_both (is_before r s) _ _ P (λ (e : is_before r s ≡ true). first e h.2) (λ (e : is_before r s ≡ false).
    joined (not_before_earlier r.region r.low s.region s.low s.high h.2.0 h.1.0) e (hull-some r s h.0, NoneBegins-hull r s rest h.1.1, h.2.2))

pub in_ranges-united_from : (r : Range) (rest : List Range) (q : Place) → ByStart (r ∷ rest) → in_ranges (united_from r rest) q ≡ in_ranges (r ∷ rest) q
in_ranges-united_from r [] q h = refl
in_ranges-united_from r (s ∷ rest) q h =
    united_from-cases (λ (l : List Range). in_ranges l q ≡ in_ranges (r ∷ s ∷ rest) q) r s rest h
    (λ e k. ap (λ (b : Bool). in_range r q || b) (in_ranges-united_from s rest q k))
    (λ e f k. in_ranges-united_from (hull r s) rest q k ∙ ap (λ (b : Bool). b || in_ranges rest q) (in_range-hull r s q h.0 h.2.0 e f)
    ∙ or-assoc (in_range r q) (in_range s q) (in_ranges rest q))

IsBeforeAll-united_from : (p r : Range) (rest : List Range) → is_before p r ≡ true → ByStart (r ∷ rest) → IsBeforeAll p (united_from r rest)
IsBeforeAll-united_from p r [] h k = (h, tt)
IsBeforeAll-united_from p r (s ∷ rest) h k =
    united_from-cases (IsBeforeAll p) r s rest k (λ e m. (h, IsBeforeAll-united_from p s rest (is_before-trans p r s k.0 h e) m))
    (λ e f m. IsBeforeAll-united_from p (hull r s) rest (before_hull p.region p.high r.region r.low s.region s.low (is_before-neither r s e f).0 k.1.0 h) m)

pub IsOrdered-united_from : (r : Range) (rest : List Range) → ByStart (r ∷ rest) → IsOrdered (united_from r rest)
IsOrdered-united_from r [] h = (h.0, tt, tt)
IsOrdered-united_from r (s ∷ rest) h =
    united_from-cases IsOrdered r s rest h (λ e k. (h.0, IsBeforeAll-united_from r s rest e k, IsOrdered-united_from s rest k))
    (λ e f k. IsOrdered-united_from (hull r s) rest k)

pub length-united_from : (r : Range) (rest : List Range) → length (united_from r rest) ≤ length rest + 1
length-united_from r [] = omega arith
length-united_from r (s ∷ rest) =
    cond_both (is_before r s) _ _ (λ (l : List Range). length l ≤ length (s ∷ rest) + 1) (λ e. omega (arith, length-united_from s rest))
    (λ e. omega (arith, length-united_from (hull r s) rest))

-- ---- two sets as one

pub united_places : (l : List Range) (q : Place) → ByStart l → in_ranges (united l) q ≡ in_ranges l q
united_places [] q h = refl
united_places (r ∷ rest) q h = in_ranges-united_from r rest q h

pub united_order : (l : List Range) → ByStart l → IsOrdered (united l)
united_order [] h = tt
united_order (r ∷ rest) h = IsOrdered-united_from r rest h

pub united_few : (l : List Range) → length (united l) ≤ length l
united_few [] = omega arith
united_few (r ∷ rest) = omega (arith, length-united_from r rest)

-- the places of both, and no other
pub in_ranges-united : (rs ss all : List Range) (q : Place) → all ≡ united (by_start rs ss) → IsOrdered rs → IsOrdered ss
    → in_ranges all q ≡ (in_ranges rs q || in_ranges ss q)
in_ranges-united rs ss all q e o u =
    ap (λ (l : List Range). in_ranges l q) e
    ∙ united_places (by_start rs ss) q (ByStart-by_start rs ss (ByStart-ordered rs o) (ByStart-ordered ss u)) ∙ in_ranges-by_start rs ss q

pub IsOrdered-united : (rs ss all : List Range) → all ≡ united (by_start rs ss) → IsOrdered rs → IsOrdered ss → IsOrdered all
IsOrdered-united rs ss all e o u = subst IsOrdered (sym e) (united_order (by_start rs ss) (ByStart-by_start rs ss (ByStart-ordered rs o) (ByStart-ordered ss u)))

pub length-united : (rs ss all : List Range) → all ≡ united (by_start rs ss) → length all ≤ length rs + length ss
length-united rs ss all e = omega (arith, ap length e, united_few (by_start rs ss), length-by_start rs ss)

pub both_views : (one rs other ss : List Range) → one ≡ rs → other ≡ ss → united (by_start one other) ≡ united (by_start rs ss)
both_views one rs other ss e f = rw (e, f) refl
