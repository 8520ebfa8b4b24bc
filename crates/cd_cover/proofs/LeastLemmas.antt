-- Lemmas on least places, and on a search for one that goes on while places are left.
use Rattle.std.proofs.Common.{◌≡◌, ℕ, ◌<◌, Bool, true, false, ◌&&◌, ◌||◌, nat_lt, nat_le, ◌==◌, if◌then◌else◌, Option, None, Some, max, min, refl, sym, ◌∙◌, subst, inl, inr, arith}
use Rattle.std.proofs.lemmas.Bool.Decides.{nat_tests}
use Rattle.std.proofs.lemmas.Bool.{cases_Bool, or_cases, or_left, or_right, cond_both, true≢false, false_from_ne_true}
use Rattle.cd_base.specs.declared.place.Place.{Place}
use Rattle.cd_base.specs.declared.place.Range.{Range}
use Rattle.cd_base.specs.Words.{PlaceSet, in_range}
use Rattle.cd_base.specs.Places.{IsLeast, stands_before}
use Rattle.cd_base.proofs.LeastLemmas.{IsLeast-of}
use Rattle.cd_cover.specs.Least.{earlier_of}

-- ---- the order of places

order : (a b c i j k : ℕ) → (nat_lt a b || ((a == b) && nat_lt i j)) ≡ true → (nat_lt c b || ((c == b) && nat_lt k j)) ≡ false
    → (nat_lt c a || ((c == a) && nat_lt k i)) ≡ false
order a b c i j k p q = grind (arith, nat_tests)

order_not : (a b c i j k : ℕ) → (nat_lt a b || ((a == b) && nat_lt i j)) ≡ false → (nat_lt c a || ((c == a) && nat_lt k i)) ≡ false
    → (nat_lt c b || ((c == b) && nat_lt k j)) ≡ false
order_not a b c i j k p q = grind (arith, nat_tests)

order_both : (a b c i j k : ℕ) → (nat_lt a b || ((a == b) && nat_lt i j)) ≡ true → (nat_lt c a || ((c == a) && nat_lt k i)) ≡ true
    → (nat_lt c b || ((c == b) && nat_lt k j)) ≡ true
order_both a b c i j k p q = grind (arith, nat_tests)

order_self : (a i : ℕ) → (nat_lt a a || ((a == a) && nat_lt i i)) ≡ false
order_self a i = grind (arith, nat_tests)

-- what does not stand before a place does not stand before an earlier one
below_earlier : (p r q : Place) → stands_before r p ≡ true → stands_before q p ≡ false → stands_before q r ≡ false
below_earlier p r q h k = order r.region p.region q.region r.index p.index q.index h k

not_before_trans : (p r q : Place) → stands_before r p ≡ false → stands_before q r ≡ false → stands_before q p ≡ false
not_before_trans p r q h k = order_not r.region p.region q.region r.index p.index q.index h k

before_trans : (p r q : Place) → stands_before r p ≡ true → stands_before q r ≡ true → stands_before q p ≡ true
before_trans p r q h k = order_both r.region p.region q.region r.index p.index q.index h k

-- ---- least places

earlier_some : (S T : PlaceSet) (p r : Place) → S p ≡ true → ((q : Place) → S q ≡ true → stands_before q p ≡ false)
    → T r ≡ true → ((q : Place) → T q ≡ true → stands_before q r ≡ false)
    → IsLeast (λ q. S q || T q) (if stands_before r p then Some r else Some p)
earlier_some S T p r hp lp hr lr =
    let U : PlaceSet = λ q. S q || T q in
    cond_both (stands_before r p) (Some r) (Some p) (IsLeast U)
    (λ yes. (
      or_right (S r) (T r) hr,
      λ q there. elim (or_cases (S q) (T q) there) [ inl s ↦ below_earlier p r q yes (lp q s) | inr t ↦ lr q t ],
    ))
    (λ no. (
      or_left (S p) (T p) hp,
      λ q there. elim (or_cases (S q) (T q) there) [ inl s ↦ lp q s | inr t ↦ not_before_trans p r q no (lr q t) ],
    ))

-- the least place of two sets together
pub least_or : (S T : PlaceSet) (a b : Option Place) → IsLeast S a → IsLeast T b → IsLeast (λ q. S q || T q) (earlier_of a b)
least_or S T None b h k = IsLeast-of T (λ q. S q || T q) b (λ q. rw (h q)) k
least_or S T (Some p) None (hp, lp) k = (
  or_left (S p) (T p) hp,
  λ q there. elim (or_cases (S q) (T q) there) [ inl s ↦ lp q s | inr t ↦ absurd (true≢false (sym t ∙ k q)) ],
)
least_or S T (Some p) (Some r) (hp, lp) (hr, lr) = earlier_some S T p r hp lp hr lr

earlier-none : (a : Option Place) → earlier_of a None ≡ a
earlier-none None = refl
earlier-none (Some p) = refl

chosen : {A : Type 0} (b : Bool) (x y : A) → b ≡ true → (if b then x else y) ≡ x
chosen b x y e = rw e

other : {A : Type 0} (b : Bool) (x y : A) → b ≡ false → (if b then x else y) ≡ y
other b x y e = rw e

earlier-three : (p r s : Place) → earlier_of (earlier_of (Some p) (Some r)) (Some s) ≡ earlier_of (Some p) (earlier_of (Some r) (Some s))
earlier-three p r s =
    elim (cases_Bool (stands_before r p)) [
      | inl rp ↦ elim (cases_Bool (stands_before s r)) [
        | inl sr ↦
            let sp : stands_before s p ≡ true = before_trans p r s rp sr in
            rw (rp, sr, sp)
        | inr sr ↦ rw (rp, sr, rp)
      ]
      | inr rp ↦ elim (cases_Bool (stands_before s r)) [
        | inl sr ↦ rw (rp, sr)
        | inr sr ↦
            let sp : stands_before s p ≡ false = not_before_trans p r s rp sr in
            rw (rp, sr, sp, rp)
      ]
    ]

earlier-assoc : (a b c : Option Place) → earlier_of (earlier_of a b) c ≡ earlier_of a (earlier_of b c)
earlier-assoc None b c = refl
earlier-assoc (Some p) None c = refl
earlier-assoc (Some p) (Some r) None = earlier-none (earlier_of (Some p) (Some r))
earlier-assoc (Some p) (Some r) (Some s) = earlier-three p r s

-- ---- a search

-- what was found so far, with the least of what is left, gives the least of the whole
pub record Leaves (found : Option Place) (left whole : PlaceSet) : Type 0 where
  pub least : (answer : Option Place) → IsLeast left answer → IsLeast whole (earlier_of found answer)

pub leaves_all : (S : PlaceSet) → Leaves None S S
leaves_all S = record { least = λ answer h. h }

pub leaves_less : (found x : Option Place) (S less left whole : PlaceSet) → Leaves found left whole
    → ((q : Place) → (S q || less q) ≡ left q) → IsLeast S x → Leaves (earlier_of found x) less whole
leaves_less found x S less left whole so same h =
    record {
      least = λ answer k.
          subst (IsLeast whole) (sym (earlier-assoc found x answer))
          (so.least (earlier_of x answer) (IsLeast-of (λ q. S q || less q) left (earlier_of x answer) same (least_or S less x answer h k)));
    }

pub leaves_none : (found : Option Place) (left whole : PlaceSet) → Leaves found left whole → ((q : Place) → left q ≡ false)
    → IsLeast whole found
leaves_none found left whole so none = subst (IsLeast whole) (earlier-none found) (so.least None none)

-- ---- two ranges

common_here : (a b c d e : ℕ) (f : ℕ) → a ≡ d → max b e < min c f
    → (((a == a) && (nat_le b (max b e) && nat_lt (max b e) c)) && ((d == a) && (nat_le e (max b e) && nat_lt (max b e) f))) ≡ true
common_here a b c d e f same some = grind (arith, nat_tests)

common_least : (a b c d e f n i : ℕ)
    → (((a == n) && (nat_le b i && nat_lt i c)) && ((d == n) && (nat_le e i && nat_lt i f))) ≡ true
    → (nat_lt n a || ((n == a) && nat_lt i (max b e))) ≡ false
common_least a b c d e f n i there = grind (arith, nat_tests)

common_some : (a b c d e f n i : ℕ)
    → (((a == n) && (nat_le b i && nat_lt i c)) && ((d == n) && (nat_le e i && nat_lt i f))) ≡ true
    → (a ≡ d) × (max b e < min c f)
common_some a b c d e f n i there = (grind (arith, nat_tests), grind (arith, nat_tests))

pub first_of_two : (r s : Range) → r.region ≡ s.region → max r.low s.low < min r.high s.high
    → IsLeast (λ q. in_range r q && in_range s q) (Some (record { region = r.region; index = max r.low s.low }))
first_of_two r s same some = (
  common_here r.region r.low r.high s.region s.low s.high same some,
  λ q there. common_least r.region r.low r.high s.region s.low s.high q.region q.index there,
)

pub none_of_two : (r s : Range) → ((r.region ≡ s.region) × (max r.low s.low < min r.high s.high) → ⊥)
    → IsLeast (λ q. in_range r q && in_range s q) None
none_of_two r s not =
    λ q. false_from_ne_true (in_range r q && in_range s q)
    (λ there. not (common_some r.region r.low r.high s.region s.low s.high q.region q.index there))
