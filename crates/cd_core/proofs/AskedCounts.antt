-- The counts of an ask: those of a subtree among the counts of the domain that waits, listed in preorder.
use Rattle.std.proofs.Common.{◌≡◌, ℕ, zero, suc, ◌+◌, ◌-◌, ◌<◌, ◌≤◌, ◌==◌, true, List, [], ◌∷◌, length, take, drop, map, get_or, cond, inl, inr, arith, refl, ap, sym, ◌∙◌}
use Rattle.std.proofs.lemmas.Bool.{cases_lt, eq-eqb}
use Rattle.std.proofs.lemmas.Bool.Decides.{nat_tests}
use Rattle.std.proofs.lemmas.List.{drop-map, take-map}
use Rattle.cd_tree.specs.declared.domain.NodeId.{NodeId}
use Rattle.cd_tree.specs.CountLaws.{copies, AgreeOn}
use Rattle.cd_tree.specs.Domains.{Node, number_of, node_numbers, numbers_from}
use Rattle.cd_tree.specs.Reading.{Counts}
use Rattle.cd_tree.specs.Slices.{IsSlice, among, in_slice, node_size}
use Rattle.cd_tree.proofs.Slices.{among_run}
use Rattle.cd_core.specs.Asks.{counts_of, counts_listed}
use Rattle.cd_core.specs.Tasks.{counts_in}
use Rattle.cd_core.proofs.Choices.{or_left, or_right}

-- ---- parts of a run of numbers

numbers_dropped : (k at n : ℕ) → drop k (numbers_from at n) ≡ numbers_from (at + k) (n - k)
numbers_dropped zero at n =
    let here : at ≡ at + 0 = omega arith in
    let many : n ≡ n - 0 = omega arith in
    ap (λ (a : ℕ). numbers_from a n) here ∙ ap (numbers_from (at + 0)) many
numbers_dropped (suc k) at zero =
    let none : 0 ≡ 0 - suc k = omega arith in
    ap (numbers_from (at + suc k)) none
numbers_dropped (suc k) at (suc n) =
    let here : suc at + k ≡ at + suc k = omega arith in
    let many : n - k ≡ suc n - suc k = omega arith in
    numbers_dropped k (suc at) n ∙ ap (λ (a : ℕ). numbers_from a (n - k)) here ∙ ap (numbers_from (at + suc k)) many

numbers_taken : (m at n : ℕ) → m ≤ n → take m (numbers_from at n) ≡ numbers_from at m
numbers_taken zero at n few = refl
numbers_taken (suc m) at zero few = absurd (omega (arith, few))
numbers_taken (suc m) at (suc n) few = ap (λ (ns : List ℕ). at ∷ ns) (numbers_taken m (suc at) n (omega (arith, few)))

part_of_run : (f : Counts) (a n b m k : ℕ) → k ≡ b - a → a ≤ b → b + m ≤ a + n
    → take m (drop k (map f (numbers_from a n))) ≡ map f (numbers_from b m)
part_of_run f a n b m k is low high =
    let here : a + k ≡ b = omega (arith, is, low) in
    ap (take m) (drop-map f k (numbers_from a n)) ∙ take-map f m (drop k (numbers_from a n))
    ∙ ap (λ (ns : List ℕ). map f (take m ns)) (numbers_dropped k a n)
    ∙ ap (map f) (numbers_taken m (a + k) (n - k) (omega (arith, is, low, high)))
    ∙ ap (λ (at : ℕ). map f (numbers_from at m)) here

-- a domain whose subtree lies in another's
pub record LiesBelow (t d : Node) : Type 0 where
  pub below : number_of t < number_of d
  pub within : number_of d + node_size d ≤ number_of t + node_size t

-- the part of a domain's counts that a member is sent are the counts of its subtree
pub counts_carried : (f : Counts) (first id : NodeId) (t d : Node) (counts : List ℕ) → counts ≡ counts_in t f → IsSlice t → IsSlice d
    → number_of t ≡ first.0 → number_of d ≡ id.0 → LiesBelow t d
    → counts_of first counts id (length (node_numbers d)) ≡ counts_in d f
counts_carried f first id t d counts is run own at here lies =
    let n : ℕ = length (node_numbers t) in
    let m : ℕ = length (node_numbers d) in
    let k : ℕ = id.0 - first.0 in
    let low : number_of t ≤ number_of d = (let b : number_of t < number_of d = lies.below in omega (arith, b)) in
    let high : number_of d + m ≤ number_of t + n = lies.within in
    ap (λ (ns : List ℕ). take m (drop k ns)) (is ∙ ap (map f) run)
    ∙ part_of_run f (number_of t) n (number_of d) m k (omega (arith, at, here)) low high
    ∙ ap (map f) (sym own)

-- ---- counts from a list

nth_number : (f : Counts) (at m i n : ℕ) → i < m → at + i ≡ n → get_or (map f (numbers_from at m)) i 0 ≡ f n
nth_number f at zero i n short is = absurd (omega (arith, short))
nth_number f at (suc m) zero n short is = ap f (omega (arith, is))
nth_number f at (suc m) (suc i) n short is = nth_number f (suc at) m i n (omega (arith, short)) (omega (arith, is))

slice_bounds : (at m n : ℕ) → in_slice at m n ≡ true → (at ≤ n) × (n < at + m)
slice_bounds at m n h = (grind (arith, nat_tests), grind (arith, nat_tests))

among_bounds : (d : Node) (n : ℕ) → IsSlice d → among (node_numbers d) n ≡ true → (number_of d ≤ n) × (n < number_of d + node_size d)
among_bounds d n own h =
    slice_bounds (number_of d) (node_size d) n
    (sym (among_run (number_of d) (node_size d) n) ∙ ap (λ (ns : List ℕ). among ns n) (sym own) ∙ h)

-- the counts of a subtree in preorder give back the count of each of its domains
pub counts_back : (f : Counts) (d : Node) (counts : List ℕ) → counts ≡ counts_in d f → IsSlice d → AgreeOn (node_numbers d) f (counts_listed d counts)
counts_back f d counts is own n h =
    let within : (number_of d ≤ n) × (n < number_of d + node_size d) = among_bounds d n own h in
    let i : ℕ = n - number_of d in
    sym (ap (λ (ns : List ℕ). get_or ns i 0) (is ∙ ap (map f) own)
    ∙ nth_number f (number_of d) (node_size d) i n (omega (arith, within.0, within.1)) (omega (arith, within.0)))

map_agrees : (f g : Counts) (numbers : List ℕ) → AgreeOn numbers f g → map f numbers ≡ map g numbers
map_agrees f g [] same = refl
map_agrees f g (n ∷ numbers) same =
    ap (λ (k : ℕ). k ∷ map f numbers) (same n (or_left (n == n) (among numbers n) (eq-eqb n n refl)))
    ∙ ap (λ (ns : List ℕ). g n ∷ ns) (map_agrees f g numbers (λ k h. same k (or_right (k == n) (among numbers k) h)))

-- and so they are the subtree's counts again
pub counts_again : (f : Counts) (d : Node) (counts : List ℕ) → counts ≡ counts_in d f → IsSlice d → counts ≡ counts_in d (counts_listed d counts)
counts_again f d counts is own = is ∙ map_agrees f (counts_listed d counts) (node_numbers d) (counts_back f d counts is own)

-- a bound on counts holds of each in a list, also after its end
pub listed_below : (f : Counts) (numbers : List ℕ) (most i : ℕ) → 0 < most → ((n : ℕ) → f n < most) → get_or (map f numbers) i 0 < most
listed_below f [] most i some below = some
listed_below f (n ∷ numbers) most zero some below = below n
listed_below f (n ∷ numbers) most (suc i) some below = listed_below f numbers most i some below

-- ---- where subtrees lie

copies-here : (n at many : ℕ) → at ≤ n → n < at + many → 0 < copies n (numbers_from at many)
copies-here n at zero from below = absurd (omega (arith, from, below))
copies-here n at (suc many) from below =
    first n at many (copies n (numbers_from (suc at) many)) from below (λ later. copies-here n (suc at) many later (omega (arith, below)))
  where
    first : (n at many more : ℕ) → at ≤ n → n < at + suc many → (suc at ≤ n → 0 < more) → 0 < cond (n == at) 1 0 + more
    first n at many more from below later = grind (arith, nat_tests)

copies-before : (n at many : ℕ) → n < at → copies n (numbers_from at many) ≡ 0
copies-before n at zero before = refl
copies-before n at (suc many) before =
    first n at (copies n (numbers_from (suc at) many)) before (copies-before n (suc at) many (omega (arith, before)))
  where
    first : (n at more : ℕ) → n < at → more ≡ 0 → cond (n == at) 1 0 + more ≡ 0
    first n at more before none = grind (arith, nat_tests)

copies-after : (n at many : ℕ) → at + many ≤ n → copies n (numbers_from at many) ≡ 0
copies-after n at zero after = refl
copies-after n at (suc many) after =
    first n at many (copies n (numbers_from (suc at) many)) after (copies-after n (suc at) many (omega (arith, after)))
  where
    first : (n at many more : ℕ) → at + suc many ≤ n → more ≡ 0 → cond (n == at) 1 0 + more ≡ 0
    first n at many more after none = grind (arith, nat_tests)

-- a run of numbers that all stand in another lies in it
pub run_inside : (a n b m : ℕ) → 0 < m → ((k : ℕ) → copies k (numbers_from b m) ≤ copies k (numbers_from a n)) → (a ≤ b) × (b + m ≤ a + n)
run_inside a n b m some inside = (
  elim (cases_lt b a) [
    | inl before ↦
        let none : copies b (numbers_from a n) ≡ 0 = copies-before b a n before in
        let one : 0 < copies b (numbers_from b m) = copies-here b b m (omega arith) (omega (arith, some)) in
        let most : copies b (numbers_from b m) ≤ copies b (numbers_from a n) = inside b in
        absurd (omega (arith, none, one, most))
    | inr not ↦ omega (arith, not)
  ],
  elim (cases_lt (a + n) (b + m)) [
    | inl over ↦
        let last : ℕ = b + m - 1 in
        let none : copies last (numbers_from a n) ≡ 0 = copies-after last a n (omega (arith, over)) in
        let one : 0 < copies last (numbers_from b m) = copies-here last b m (omega (arith, some)) (omega (arith, some)) in
        let most : copies last (numbers_from b m) ≤ copies last (numbers_from a n) = inside last in
        absurd (omega (arith, none, one, most))
    | inr not ↦ omega (arith, not)
  ],
)
