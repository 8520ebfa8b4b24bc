-- Two tables have two numbers.
use Rattle.std.proofs.Common.{◌≡◌, ℕ, zero, suc, ◌+◌, ◌*◌, ◌<◌, List, [], ◌∷◌, refl, ap, arith}
use Rattle.atomic_table.specs.Seated.{TableId}
use Rattle.cd_lease.specs.Stores.{doubled, pair, row, number}

pub pairs : (a b c d : ℕ) → pair a b ≡ pair c d → (a ≡ c) × (b ≡ d)
pairs zero b zero d e = (refl, omega arith)
pairs zero b (suc c) d e = absurd (let x : ℕ = doubled c (2 * d + 1) in let f : 2 * b + 1 ≡ 2 * x = e in omega arith)
pairs (suc a) b zero d e = absurd (let x : ℕ = doubled a (2 * b + 1) in let f : 2 * x ≡ 2 * d + 1 = e in omega arith)
pairs (suc a) b (suc c) d e =
    let x : ℕ = doubled a (2 * b + 1) in
    let y : ℕ = doubled c (2 * d + 1) in
    let f : 2 * x ≡ 2 * y = e in
    let r = pairs a b c d (omega arith) in
    (ap suc r.0, r.1)

some_pair : (a b : ℕ) → 0 < pair a b
some_pair zero b = omega arith
some_pair (suc a) b = let r : 0 < doubled a (2 * b + 1) = some_pair a b in omega arith

pub rows : (xs ys : List ℕ) → row xs ≡ row ys → xs ≡ ys
rows [] [] e = refl
rows [] (y ∷ ys) e = absurd (let s : 0 < pair y (row ys) = some_pair y (row ys) in omega arith)
rows (x ∷ xs) [] e = absurd (let s : 0 < pair x (row xs) = some_pair x (row xs) in omega arith)
rows (x ∷ xs) (y ∷ ys) e =
    let p = pairs x (row xs) y (row ys) e in
    let r = rows xs ys p.1 in
    λ i. p.0 i ∷ r i

pub same_table : (t u : TableId) → number t ≡ number u → t ≡ u
unfolding number
same_table t u e =
    let a = pairs t.words (pair t.slots (pair t.views_name (pair t.atom (pair t.block (pair t.offset (row t.slot_names))))))
    u.words (pair u.slots (pair u.views_name (pair u.atom (pair u.block (pair u.offset (row u.slot_names)))))) e in
    let b = pairs t.slots (pair t.views_name (pair t.atom (pair t.block (pair t.offset (row t.slot_names)))))
    u.slots (pair u.views_name (pair u.atom (pair u.block (pair u.offset (row u.slot_names))))) a.1 in
    let c = pairs t.views_name (pair t.atom (pair t.block (pair t.offset (row t.slot_names))))
    u.views_name (pair u.atom (pair u.block (pair u.offset (row u.slot_names)))) b.1 in
    let d = pairs t.atom (pair t.block (pair t.offset (row t.slot_names))) u.atom (pair u.block (pair u.offset (row u.slot_names))) c.1 in
    let f = pairs t.block (pair t.offset (row t.slot_names)) u.block (pair u.offset (row u.slot_names)) d.1 in
    let g = pairs t.offset (row t.slot_names) u.offset (row u.slot_names) f.1 in
    let h = rows t.slot_names u.slot_names g.1 in
    λ i. record { words = a.0 i; slots = b.0 i; views_name = c.0 i; atom = d.0 i; block = f.0 i; offset = g.0 i; slot_names = h i }
