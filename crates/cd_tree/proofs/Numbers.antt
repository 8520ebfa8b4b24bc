-- What holds of each number of a list; how often a number stands in a list, and the growth of a count that goes with it.
use Rattle.std.proofs.Common.{◌≡◌, ℕ, subst, inl, inr, zero, suc, ◌+◌, ◌*◌, ◌≤◌, ◌<◌, cond, ◌==◌, List, [], ◌∷◌, ◌++◌, refl, ap, arith, mul-add, add-mul, mul-le-mul_left}
use Rattle.std.proofs.lemmas.Bool.{cases_eq}
use Rattle.std.proofs.lemmas.Bool.Decides.{nat_tests}
use Rattle.cd_base.proofs.ListLemmas.{Each}
use Rattle.cd_tree.specs.Domains.{numbers_from}
use Rattle.cd_tree.specs.CountLaws.{copies}

-- a property of each number of a run
pub each_at : (Q : ℕ → Type 0) (at n k : ℕ) → Each Q (numbers_from at n) → at ≤ k → k < at + n → Q k
each_at Q at zero k each from below = absurd (omega arith)
each_at Q at (suc n) k (here, each) from below =
    elim (cases_eq at k) [
      | inl same ↦ subst Q same here
      | inr other ↦ each_at Q (suc at) n k each (omega arith) (omega arith)
    ]

pub copies-append : (n : ℕ) (ms ns : List ℕ) → copies n (ms ++ ns) ≡ copies n ms + copies n ns
copies-append n [] ns = omega arith
copies-append n (m ∷ ms) ns = omega (arith, copies-append n ms ns)

-- below its first number a run of numbers has nothing
copies-below : (n at many : ℕ) → n < at → copies n (numbers_from at many) ≡ 0
copies-below n at zero below = refl
copies-below n at (suc many) below =
    let rest : copies n (numbers_from (suc at) many) ≡ 0 = copies-below n (suc at) many (omega arith) in
    one_more n at (copies n (numbers_from (suc at) many)) below rest
  where
    one_more : (n at more : ℕ) → n < at → more ≡ 0 → cond (n == at) 1 0 + more ≡ 0
    one_more n at more below none = grind (arith, nat_tests)

-- a run of numbers has each of them once
pub copies-at_most_one : (n at many : ℕ) → copies n (numbers_from at many) ≤ 1
copies-at_most_one n at zero = omega arith
copies-at_most_one n at (suc many) =
    first n at (copies n (numbers_from (suc at) many)) (λ e. copies-below n (suc at) many (omega arith)) (copies-at_most_one n (suc at) many)
  where
    first : (n at more : ℕ) → (n ≡ at → more ≡ 0) → more ≤ 1 → cond (n == at) 1 0 + more ≤ 1
    first n at more none one = grind (arith, nat_tests)

-- one part of the reading and then another: each part adds its copies once and once more for each repeat in it
pub growth-joined : (base before now a b r q : ℕ) → before ≤ base + a * (1 + r) → now ≤ before + b * (1 + q) →
    now ≤ base + (a + b) * (1 + (r + q))
growth-joined base before now a b r q h k =
    let split : (a + b) * (1 + (r + q)) ≡ a * (1 + (r + q)) + b * (1 + (r + q)) = add-mul a b (1 + (r + q)) in
    let left : a * (1 + r) ≤ a * (1 + (r + q)) = mul-le-mul_left a (omega arith) in
    let right : b * (1 + q) ≤ b * (1 + (r + q)) = mul-le-mul_left b (omega arith) in
    omega arith

-- one try and, as it has failed, the others: the repeat between them pays for the copies in the others
pub growth-repeated : (base before now a r q : ℕ) → before ≤ base + a * (1 + r) → now ≤ before + a * (1 + q) →
    now ≤ base + a * (1 + (r + 1 + q))
growth-repeated base before now a r q h k =
    let same : a * (1 + r + (1 + q)) ≡ a * (1 + (r + 1 + q)) = ap (λ (x : ℕ). a * x) (omega arith) in
    let split : a * (1 + r + (1 + q)) ≡ a * (1 + r) + a * (1 + q) = mul-add a (1 + r) (1 + q) in
    omega arith
