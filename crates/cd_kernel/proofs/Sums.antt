-- Sums and greatest words taken one by one, and sums in which most terms are nothing.
use Rattle.std.proofs.Common.{◌≡◌, ℕ, zero, suc, ◌+◌, ◌*◌, ◌^◌, ◌<◌, ◌≤◌, max, List, get_or, arith, refl, ap, sym, ◌∙◌, add-one, inl, inr}
use Rattle.std.proofs.Math.Nat.{add-mod-mod, mod-add-mod}
use Rattle.std.proofs.lemmas.Bool.{cases_lt}
use Rattle.cd_base.specs.declared.place.Range.{Range}
use Rattle.cd_base.specs.Words.{Words, word_of}
use Rattle.cd_tree.specs.Operations.{total, greatest, nth_word}
use Rattle.cd_tree.proofs.SameColumns.{total-same, greatest-same}
use Rattle.cd_kernel.specs.declared.totals.Gathering.{Gathering}
use Rattle.cd_kernel.specs.declared.totals.Gathering.TheVariants.{Adding, Multiplying, Comparing}
use Rattle.cd_kernel.specs.Computing.{gathered, gathered_on}

-- terms that are nothing add nothing
pub total-flat : (f : ℕ → ℕ) (a b : ℕ) → a ≤ b → ((j : ℕ) → a ≤ j → j < b → f j ≡ 0) → total f b ≡ total f a
total-flat f a zero h flat = let e : zero ≡ a = omega arith in ap (total f) e
total-flat f a (suc b) h flat =
    elim (cases_lt b a) [
      | inl l ↦ let e : suc b ≡ a = omega arith in ap (total f) e
      | inr l ↦
          let last : f b ≡ 0 = flat b l (omega arith) in
          let front : total f b ≡ total f a = total-flat f a b l (λ j from to. flat j from (omega arith)) in
          omega arith
    ]

-- one term more joins a running sum
pub sum_more : (f : ℕ → ℕ) (n sum term later : ℕ) → sum ≡ word_of (total f n) → word_of term ≡ word_of (f n)
    → later ≡ word_of (sum + term) → later ≡ word_of (total f (n + 1))
sum_more f n sum term later before is after =
    after
    ∙ ap (λ (v : ℕ). word_of (v + term)) before
    ∙ mod-add-mod (total f n) (2 ^ 64) term
    ∙ sym (add-mod-mod (total f n) term (2 ^ 64))
    ∙ ap (λ (v : ℕ). word_of (total f n + v)) is
    ∙ add-mod-mod (total f n) (f n) (2 ^ 64)
    ∙ sym (ap (λ (k : ℕ). word_of (total f k)) (add-one n))

-- a sum in two parts
total_parted : (f g : ℕ → ℕ) (a n : ℕ) → ((j : ℕ) → j < n → g j ≡ f (a + j)) → total f (a + n) ≡ total f a + total g n
total_parted f g a zero same =
    let e : a + zero ≡ a = omega arith in
    ap (total f) e ∙ (let none : total f a ≡ total f a + 0 = omega arith in none)
total_parted f g a (suc n) same =
    let last : g n ≡ f (a + n) = same n (omega arith) in
    let front : total f (a + n) ≡ total f a + total g n = total_parted f g a n (λ j h. same j (omega arith)) in
    let e : a + suc n ≡ suc (a + n) = omega arith in
    ap (total f) e ∙ (let all : total f (a + n) + f (a + n) ≡ total f a + (total g n + g n) = omega arith in all)

-- a block of terms more joins a running sum
pub block_summed : (f g : ℕ → ℕ) (a n m sum later : ℕ) → sum ≡ word_of (total f a) → ((j : ℕ) → j < n → g j ≡ f (a + j))
    → later ≡ word_of (sum + total g m) → m ≡ n → later ≡ word_of (total f (a + n))
block_summed f g a n m sum later before same after long =
    after
    ∙ ap (λ (k : ℕ). word_of (sum + total g k)) long
    ∙ ap (λ (v : ℕ). word_of (v + total g n)) before
    ∙ mod-add-mod (total f a) (2 ^ 64) (total g n)
    ∙ sym (ap word_of (total_parted f g a n same))

-- the greatest of two parts
greatest_parted : (f g : ℕ → ℕ) (a n : ℕ) → ((j : ℕ) → j < n → g j ≡ f (a + j)) → greatest f (a + n) ≡ max (greatest f a) (greatest g n)
greatest_parted f g a zero same =
    let e : a + zero ≡ a = omega arith in
    ap (greatest f) e ∙ (let none : greatest f a ≡ max (greatest f a) 0 = omega arith in none)
greatest_parted f g a (suc n) same =
    let last : g n ≡ f (a + n) = same n (omega arith) in
    let front : greatest f (a + n) ≡ max (greatest f a) (greatest g n) = greatest_parted f g a n (λ j h. same j (omega arith)) in
    let e : a + suc n ≡ suc (a + n) = omega arith in
    ap (greatest f) e
    ∙ (let all : max (greatest f (a + n)) (f (a + n)) ≡ max (greatest f a) (max (greatest g n) (g n)) = omega arith in all)

-- a block of words more is compared
block_compared : (f g : ℕ → ℕ) (a n m most later : ℕ) → most ≡ greatest f a → ((j : ℕ) → j < n → g j ≡ f (a + j))
    → later ≡ max most (greatest g m) → m ≡ n → later ≡ greatest f (a + n)
block_compared f g a n m most later before same after long =
    after ∙ ap (λ (k : ℕ). max most (greatest g k)) long ∙ ap (λ (v : ℕ). max v (greatest g n)) before ∙ sym (greatest_parted f g a n same)

-- a sum of words that were read
pub sum_read : (sum later n m : ℕ) (f g : ℕ → ℕ) → ((j : ℕ) → j < n → f j ≡ g j) → later ≡ word_of (sum + total f n) → n ≡ m
    → later ≡ word_of (sum + total g m)
sum_read sum later n m f g same is long =
    is ∙ ap (λ (v : ℕ). word_of (sum + v)) (total-same f g n same ∙ ap (total g) long)

greatest_read : (most later n m : ℕ) (f g : ℕ → ℕ) → ((j : ℕ) → j < n → f j ≡ g j) → later ≡ max most (greatest f n) → n ≡ m
    → later ≡ max most (greatest g m)
greatest_read most later n m f g same is long =
    is ∙ ap (λ (v : ℕ). max most v) (greatest-same f g n same ∙ ap (greatest g) long)

-- the same of words of a range that were read into a list, in a way that is known
pub adding_read : (way : Gathering) (w : Words) (x : Range) (at before later n m : ℕ) (words : List ℕ) → way ≡ Adding
    → ((j : ℕ) → j < n → get_or words j 0 ≡ nth_word w x (at + j)) → later ≡ word_of (before + total (λ j. get_or words j 0) n) → n ≡ m
    → later ≡ gathered_on way w x at before m
adding_read way w x at before later n m words is same made long =
    sum_read before later n m (λ j. get_or words j 0) (λ j. nth_word w x (at + j)) same made long
    ∙ sym (ap (λ (v : Gathering). gathered_on v w x at before m) is)

pub comparing_read : (way : Gathering) (w : Words) (x : Range) (at before later n m : ℕ) (words : List ℕ) → way ≡ Comparing
    → ((j : ℕ) → j < n → get_or words j 0 ≡ nth_word w x (at + j)) → later ≡ max before (greatest (λ j. get_or words j 0) n) → n ≡ m
    → later ≡ gathered_on way w x at before m
comparing_read way w x at before later n m words is same made long =
    greatest_read before later n m (λ j. get_or words j 0) (λ j. nth_word w x (at + j)) same made long
    ∙ sym (ap (λ (v : Gathering). gathered_on v w x at before m) is)

-- what is made of words a block at a time
pub none_gathered : (gathering : Gathering) (w : Words) (x : Range) → 0 ≡ gathered gathering w x 0
none_gathered Adding w x = refl
none_gathered (Multiplying z) w x = refl
none_gathered Comparing w x = refl

pub block_gathered : (gathering : Gathering) (w : Words) (x : Range) (a n m before later : ℕ) → before ≡ gathered gathering w x a
    → later ≡ gathered_on gathering w x a before m → m ≡ n → later ≡ gathered gathering w x (a + n)
block_gathered Adding w x a n m before later is after long =
    block_summed (nth_word w x) (λ j. nth_word w x (a + j)) a n m before later is (λ j short. refl) after long
block_gathered (Multiplying z) w x a n m before later is after long =
    block_summed (λ j. nth_word w x j * nth_word w z j) (λ j. nth_word w x (a + j) * nth_word w z (a + j)) a n m before later is
    (λ j short. refl) after long
block_gathered Comparing w x a n m before later is after long =
    block_compared (nth_word w x) (λ j. nth_word w x (a + j)) a n m before later is (λ j short. refl) after long
