-- Counts of ids, and the words under them.
use Rattle.std.proofs.Common.{◌≡◌, ℕ, ◌+◌, ◌-◌, ◌<◌, ◌≤◌, Bool, true, false, cond, ◌==◌, List, [], ◌∷◌, length, Option, None, Some, IsSome, unwrap_or, sym, refl, ap, subst, ◌∙◌, arith, eq-eqb, ne_eqb, eqb-true, lit≤}
use Rattle.std.proofs.lemmas.Bool.{and_from, and_parts, cond-true, cond-false, true≢false}
use Rattle.cd_base.proofs.BoolLemmas.{by_test}
use Rattle.cd_keep.specs.declared.keep_id.KeepId.{KeepId}
use Rattle.cd_keep.specs.PassModel.{same_id}
use Rattle.cd_lease.specs.declared.view.Piece.{Piece}
use Rattle.cd_lease.specs.declared.view.View.{View}
use Rattle.cd_lease.specs.Views.{times, one_out, words_under, one_if, one_there, ids_of, fills_of, tries_of, fills_in}

-- ---- options

pub inside : {A : Type 0} (x y : A) → ◌≡◌ {A = Option A} (Some x) (Some y) → x ≡ y
inside x y e = ap (λ o. unwrap_or o x) e

pub none_from : {A : Type 0} (o : Option A) → ((x : A) → o ≡ Some x → ⊥) → o ≡ None
none_from None h = refl
none_from (Some x) h = absurd (h x refl)

pub not_some : {A : Type 0} (x : A) → ◌≡◌ {A = Option A} None (Some x) → ⊥
not_some x e = cc

pub some_of : {A : Type 0} (o : Option A) → IsSome o → (x : A) × (o ≡ Some x)
some_of None h = absurd (cc)
some_of (Some x) h = (x, refl)

-- ---- ids

pub same_self : (p : KeepId) → same_id p p ≡ true
same_self p = and_from (p.block == p.block) (p.serial == p.serial) (eq-eqb p.block p.block refl) (eq-eqb p.serial p.serial refl)

pub id_from : (p q : KeepId) → p.block ≡ q.block → p.serial ≡ q.serial → p ≡ q
id_from p q b s = λ i. record { block = b i; serial = s i }

pub same_ids : (p q : KeepId) → same_id p q ≡ true → p ≡ q
same_ids p q e =
    let parts = and_parts (p.block == q.block) (p.serial == q.serial) e in
    id_from p q (eqb-true p.block q.block parts.0) (eqb-true p.serial q.serial parts.1)

pub one_most : (t : Bool) → one_if t ≤ 1
one_most true = lit≤ tt
one_most false = lit≤ tt

pub one_at : (a b : ℕ) → a ≡ b → one_if (a == b) ≡ 1
one_at a b e = ap one_if (eq-eqb a b e)

pub one_off : (a b : ℕ) → (a ≡ b → ⊥) → one_if (a == b) ≡ 0
one_off a b n = ap one_if (ne_eqb a b n)

-- ---- how often an id is among some

pub held_in_block : (ps : List KeepId) (id : KeepId) → 0 < times ps id → 0 < ids_of id.block ps
held_in_block [] id h = absurd (omega arith)
held_in_block (p ∷ ps) id h = by_test (same_id p id)
    (λ e. let one : one_if (p.block == id.block) ≡ 1 = ap one_if (and_parts (p.block == id.block) (p.serial == id.serial) e).0 in omega arith)
    (λ e.
    let less : 0 < times ps id = subst (λ (n : ℕ). 0 < n) (cond-false (same_id p id) (times ps id + 1) (times ps id) e) h in
    let r : 0 < ids_of id.block ps = held_in_block ps id less in
    omega arith)

pub ids_most : (b : ℕ) (ps : List KeepId) → ids_of b ps ≤ length ps
ids_most b [] = lit≤ tt
ids_most b (p ∷ ps) =
    let one : one_if (p.block == b) ≤ 1 = one_most (p.block == b) in
    let r : ids_of b ps ≤ length ps = ids_most b ps in
    omega arith

-- one more, where the first is the id or the rest has it
pub times_cases : {P : Type 0} (p q : KeepId) (ps : List KeepId) → 0 < times (p ∷ ps) q → (p ≡ q → P) → (0 < times ps q → P) → P
times_cases p q ps h first rest = by_test (same_id p q)
    (λ e. first (same_ids p q e))
    (λ e. rest (subst (λ (n : ℕ). 0 < n) (cond-false (same_id p q) (times ps q + 1) (times ps q) e) h))

out_here : (t : Bool) (n : ℕ) → n ≡ cond t (cond t (n + 1) n - 1) (cond t (n + 1) n)
out_here true n = omega arith
out_here false n = refl

out_there : (s t : Bool) (m n : ℕ) → m ≡ cond t (n - 1) n → (t ≡ true → s ≡ false) → cond s (m + 1) m ≡ cond t (cond s (n + 1) n - 1) (cond s (n + 1) n)
out_there true true m n e h = absurd (true≢false (h refl))
out_there true false m n e h = ap (λ (k : ℕ). k + 1) e
out_there false true m n e h = e
out_there false false m n e h = e

rest_held : (p id : KeepId) (ps : List KeepId) → same_id p id ≡ false → 0 < times (p ∷ ps) id → 0 < times ps id
rest_held p id ps e h = subst (λ (n : ℕ). 0 < n) (cond-false (same_id p id) (times ps id + 1) (times ps id) e) h

pub times_one_out : (ps : List KeepId) (id q : KeepId) → 0 < times ps id → times (one_out id ps) q ≡ cond (same_id id q) (times ps q - 1) (times ps q)
times_one_out [] id q h = absurd (omega arith)
times_one_out (p ∷ ps) id q h = by_test (same_id p id)
    (λ e.
    let first : same_id p q ≡ same_id id q = ap (λ (r : KeepId). same_id r q) (same_ids p id e) in
    ap (λ (l : List KeepId). times l q) (cond-true (same_id p id) ps (p ∷ one_out id ps) e)
    ∙ subst (λ (t : Bool). times ps q ≡ cond (same_id id q) (cond t (times ps q + 1) (times ps q) - 1) (cond t (times ps q + 1) (times ps q))) (sym first)
    (out_here (same_id id q) (times ps q)))
    (λ e.
    ap (λ (l : List KeepId). times l q) (cond-false (same_id p id) ps (p ∷ one_out id ps) e)
    ∙ out_there (same_id p q) (same_id id q) (times (one_out id ps) q) (times ps q) (times_one_out ps id q (rest_held p id ps e h))
    (λ t. ap (λ (r : KeepId). same_id p r) (sym (same_ids id q t)) ∙ e))

fewer : (t : Bool) (n : ℕ) → cond t (n - 1) n ≤ n
fewer true n = omega arith
fewer false n = omega arith

pub times_fewer : (ps : List KeepId) (id q : KeepId) → 0 < times ps id → times (one_out id ps) q ≤ times ps q
times_fewer ps id q h = subst (λ (n : ℕ). n ≤ times ps q) (sym (times_one_out ps id q h)) (fewer (same_id id q) (times ps q))

pub length_one_out : (ps : List KeepId) (id : KeepId) → 0 < times ps id → length (one_out id ps) + 1 ≡ length ps
length_one_out [] id h = absurd (omega arith)
length_one_out (p ∷ ps) id h = by_test (same_id p id)
    (λ e. let r = ap length (cond-true (same_id p id) ps (p ∷ one_out id ps) e) in omega arith)
    (λ e.
    let r = ap length (cond-false (same_id p id) ps (p ∷ one_out id ps) e) in
    let s = length_one_out ps id (rest_held p id ps e h) in
    omega arith)

pub ids_one_out : (ps : List KeepId) (id : KeepId) (b : ℕ) → 0 < times ps id → ids_of b (one_out id ps) + one_if (id.block == b) ≡ ids_of b ps
ids_one_out [] id b h = absurd (omega arith)
ids_one_out (p ∷ ps) id b h = by_test (same_id p id)
    (λ e.
    let r : ids_of b (one_out id (p ∷ ps)) ≡ ids_of b ps = ap (ids_of b) (cond-true (same_id p id) ps (p ∷ one_out id ps) e) in
    let o : one_if (p.block == b) ≡ one_if (id.block == b) = ap (λ (q : KeepId). one_if (q.block == b)) (same_ids p id e) in
    omega arith)
    (λ e.
    let r : ids_of b (one_out id (p ∷ ps)) ≡ one_if (p.block == b) + ids_of b (one_out id ps) = ap (ids_of b) (cond-false (same_id p id) ps (p ∷ one_out id ps) e) in
    let s : ids_of b (one_out id ps) + one_if (id.block == b) ≡ ids_of b ps = ids_one_out ps id b (rest_held p id ps e h) in
    omega arith)

-- ---- what is filled

pub fills_self : (v : View) (p : Piece) → v.filling ≡ Some p → fills_in p.id.block v ≡ 1
fills_self v p e = ap (fills_of p.id.block) e ∙ one_at p.id.block p.id.block refl

pub fills_most : (b : ℕ) (o : Option Piece) → fills_of b o ≤ one_there o
fills_most b None = lit≤ tt
fills_most b (Some p) = one_most (p.id.block == b)

pub tries_most : (b : ℕ) (o : Option ℕ) → tries_of b o ≤ one_there o
tries_most b None = lit≤ tt
tries_most b (Some c) = one_most (c == b)

-- ---- the words under an id, where a piece is put first

pub first_words : (p : Piece) (ps : List Piece) → words_under (p ∷ ps) p.id ≡ Some p.words
first_words p ps = cond-true (same_id p.id p.id) (Some p.words) (words_under ps p.id) (same_self p.id)

pub words_cases : {P : Type 0} (p : Piece) (ps : List Piece) (q : KeepId) (ws : List ℕ) → words_under (p ∷ ps) q ≡ Some ws
    → (p.id ≡ q → p.words ≡ ws → P) → (words_under ps q ≡ Some ws → P) → P
words_cases p ps q ws h first rest = by_test (same_id p.id q)
    (λ e. first (same_ids p.id q e) (inside p.words ws (sym (cond-true (same_id p.id q) (Some p.words) (words_under ps q) e) ∙ h)))
    (λ e. rest (sym (cond-false (same_id p.id q) (Some p.words) (words_under ps q) e) ∙ h))

some_still : (t : Bool) (ws : List ℕ) (o : Option (List ℕ)) → IsSome o → IsSome (cond t (Some ws) o)
some_still true ws o h = refl
some_still false ws o h = h

pub known_still : (p : Piece) (ps : List Piece) (q : KeepId) → IsSome (words_under ps q) → IsSome (words_under (p ∷ ps) q)
known_still p ps q h = some_still (same_id p.id q) p.words (words_under ps q) h
