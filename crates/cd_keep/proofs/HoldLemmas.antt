-- How often an id is among those held when one is added or one of it is taken away.
use Rattle.std.proofs.Common.{◌≡◌, ℕ, ◌+◌, ◌-◌, ◌<◌, Bool, true, false, List, [], ◌∷◌, length, Option, Some, IsSome, refl, subst, sym, ap, ◌∙◌, arith, inl, inr, if◌then◌else◌}
use Rattle.std.proofs.Math.Path.{fun_ext}
use Rattle.std.proofs.lemmas.Bool.{cases_Bool}
use Rattle.std.proofs.lemmas.Bool.Decides.{nat_tests}
use Rattle.cd_keep.specs.declared.keep_id.KeepId.{KeepId}
use Rattle.cd_keep.specs.PassModel.{known_with, one_less, same_id}
use Rattle.cd_keep.specs.Holding.{AreKnown, times, less}

abbrev id_of : ℕ → ℕ → KeepId
id_of block serial = record { block = block; serial = serial }

-- tests of three ids
abbrev Test : Bool → ℕ → ℕ → ℕ
Test b n m = if b then n else m

same_then : (id p q : KeepId) → same_id id p ≡ true → same_id id q ≡ same_id p q
same_then id p q h = grind (arith, nat_tests)

not_both : (id p q : KeepId) → same_id id p ≡ false → same_id id q ≡ true → same_id p q ≡ false
not_both id p q h t = grind (arith, nat_tests)

one_of : (b : Bool) (n : ℕ) → Test b (Test b (n + 1) n - 1) (Test b (n + 1) n) ≡ n
one_of true n = omega arith
one_of false n = refl

other : (b c : Bool) (n : ℕ) → (b ≡ true → c ≡ false) → Test b (Test c (n + 1) n - 1) (Test c (n + 1) n) ≡ Test c (Test b (n - 1) n + 1) (Test b (n - 1) n)
other true true n h = absurd (differ (h refl))
  where
    differ : true ≡ false → ⊥
    differ e = cc
other true false n h = refl
other false true n h = refl
other false false n h = refl

less_at : (id : KeepId) (ids : List KeepId) (q : KeepId) → Test (same_id id q) (times ids q - 1) (times ids q) ≡ times (less id ids) q
less_at id [] q = elim (cases_Bool (same_id id q)) [ inl t ↦ rw t refl | inr f ↦ rw f refl ]
less_at id (p ∷ ids) q =
    elim (cases_Bool (same_id id p)) [
      | inl t ↦ rw (t, same_then id p q t) (one_of (same_id p q) (times ids q))
      | inr f ↦
          rw f (other (same_id id q) (same_id p q) (times ids q) (not_both id p q f)
          ∙ ap (λ (n : ℕ). Test (same_id p q) (n + 1) n) (less_at id ids q))
    ]

pub times-less : (ids : List KeepId) (id : KeepId) → times (less id ids) ≡ one_less (times ids) id
times-less ids id = fun_ext (λ (q : KeepId). sym (less_at id ids q))

same_back : (p id : KeepId) → same_id id p ≡ false → same_id p id ≡ false
same_back p id f = grind (arith, nat_tests)

pub length-less : (ids : List KeepId) (id : KeepId) → 0 < times ids id → length (less id ids) + 1 ≡ length ids
length-less [] id h = absurd (omega arith)
length-less (p ∷ ids) id h =
    elim (cases_Bool (same_id id p)) [
      | inl t ↦ rw t (omega arith)
      | inr f ↦
          let there : 0 < times ids id = rw (same_back p id f) at h in
          let rest : length (less id ids) + 1 ≡ length ids = length-less ids id there in
          rw f (omega (arith, rest))
    ]

same_itself : (id : KeepId) → same_id id id ≡ true
same_itself id = grind (arith, nat_tests)

same_ids : (p q : KeepId) → same_id p q ≡ true → p ≡ q
same_ids p q h =
    let block : p.block ≡ q.block = grind (arith, nat_tests) in
    let serial : p.serial ≡ q.serial = grind (arith, nat_tests) in
    ap (λ (n : ℕ). id_of n p.serial) block ∙ ap (id_of q.block) serial

-- ---- what is held is known

pub known-held : (known : KeepId → Option (List ℕ)) (ids : List KeepId) (id : KeepId) → IsSome (known id) → AreKnown known ids → AreKnown known (id ∷ ids)
known-held known ids id is are = record { each = λ q h. elim (cases_Bool (same_id id q)) [ inl t ↦ of_same q t | inr f ↦ are.each q (rw f at h) ] }
  where
    of_same : (q : KeepId) → same_id id q ≡ true → IsSome (known q)
    of_same q t = subst (λ (i : KeepId). IsSome (known i)) (same_ids id q t) is

known-more : (known : KeepId → Option (List ℕ)) (ids : List KeepId) (id : KeepId) (words : List ℕ) → AreKnown known ids → AreKnown (known_with known id words) ids
known-more known ids id words are = record { each = λ q h. by_test (same_id id q) (known q) (are.each q h) }
  where
    by_test : (b : Bool) (was : Option (List ℕ)) → IsSome was → IsSome (if b then Some words else was)
    by_test true was h = refl
    by_test false was h = h

known-itself : (known : KeepId → Option (List ℕ)) (id : KeepId) (words : List ℕ) → IsSome (known_with known id words id)
known-itself known id words = rw (same_itself id) refl

pub known-kept : (known new : KeepId → Option (List ℕ)) (ids later : List KeepId) (id : KeepId) (words : List ℕ) → new ≡ known_with known id words
    → later ≡ id ∷ ids → AreKnown known ids → AreKnown new later
known-kept known new ids later id words is more are =
    subst (λ (k : KeepId → Option (List ℕ)). AreKnown k later) (sym is)
    (subst (AreKnown (known_with known id words)) (sym more) (known-held (known_with known id words) ids id (known-itself known id words) (known-more known ids id words are)))

pub known-less : (known : KeepId → Option (List ℕ)) (ids later : List KeepId) (id : KeepId) → later ≡ less id ids → AreKnown known ids → AreKnown known later
known-less known ids later id fewer_ids are = subst (AreKnown known) (sym fewer_ids) (record { each = λ q h. are.each q (fewer (same_id id q) (times ids q) (times (less id ids) q) (less_at id ids q) h) })
  where
    fewer : (b : Bool) (n m : ℕ) → Test b (n - 1) n ≡ m → 0 < m → 0 < n
    fewer true n m e h = omega (arith, e, h)
    fewer false n m e h = omega (arith, e, h)
