-- A row of a sparse product, summed from its start up to its end alone.
use Rattle.std.proofs.Common.{◌≡◌, ℕ, ◌+◌, ◌*◌, ◌^◌, ◌<◌, ◌≤◌, min, Bool, true, false, ◌&&◌, nat_lt, nat_le, if◌then◌else◌, List, length, get_or, arith, refl, ap, ap₂, sym, ◌∙◌}
use Rattle.std.proofs.Math.Nat.{mod-mod}
use Rattle.std.proofs.lemmas.Bool.Decides.{nat_tests}
use Rattle.cd_base.specs.declared.place.Range.{Range}
use Rattle.cd_base.specs.Words.{Words, word_of}
use Rattle.cd_tree.specs.Operations.{length_of, nth_word, total, product_at}
use Rattle.cd_tree.proofs.SameColumns.{total-same}
use Rattle.cd_field.specs.FieldModel.{words_in}
use Rattle.cd_base.proofs.BoolLemmas.{by_test}
use Rattle.cd_field.proofs.RunLemmas.{words_long, word_read}
use Rattle.cd_kernel.specs.Computing.{row_at}
use Rattle.cd_kernel.proofs.Sums.{total-flat, sum_more}

-- three tests of which one fails, or of which two hold
first_fails : (a b c : Bool) (u : ℕ) → a ≡ false → (if a && b && c then u else 0) ≡ 0
first_fails a false c u e = rw e refl
first_fails a true false u e = rw e refl
first_fails a true true u e = rw e refl

second_fails : (a b c : Bool) (u : ℕ) → b ≡ false → (if a && b && c then u else 0) ≡ 0
second_fails true b false u e = rw e refl
second_fails true b true u e = rw e refl
second_fails false b c u e = refl

third_fails : (a b c : Bool) (u : ℕ) → c ≡ false → (if a && b && c then u else 0) ≡ 0
third_fails true true c u e = rw e refl
third_fails true false c u e = refl
third_fails false b c u e = refl

two_hold : (a b c : Bool) (u : ℕ) → a ≡ true → b ≡ true → (if a && b && c then u else 0) ≡ (if c then u else 0)
two_hold a b true u e f = rw (e, f) refl
two_hold a b false u e f = rw (e, f) refl

-- a position before the row's start gives nothing
before_start : (start end n : ℕ) (column value word : ℕ → ℕ) (p : ℕ) → p < start → row_at start end n column value word p ≡ 0
before_start start end n column value word p ahead =
    first_fails (nat_le start p) (nat_lt p end) (nat_lt (column p) n) _ (grind (arith, nat_tests))

-- nor does one from its end on
from_end : (start end n : ℕ) (column value word : ℕ → ℕ) (p : ℕ) → end ≤ p → row_at start end n column value word p ≡ 0
from_end start end n column value word p behind =
    second_fails (nat_le start p) (nat_lt p end) (nat_lt (column p) n) _ (grind (arith, nat_tests))

-- what a position of the row gives
in_row : (start end n : ℕ) (column value word : ℕ → ℕ) (p : ℕ) → start ≤ p → p < end
    → row_at start end n column value word p ≡ (if nat_lt (column p) n then value p * word (column p) else 0)
in_row start end n column value word p from to =
    two_hold (nat_le start p) (nat_lt p end) (nat_lt (column p) n) _ (grind (arith, nat_tests)) (grind (arith, nat_tests))

-- the value of a choice of words
cut_choice : (b : Bool) (u : ℕ) → word_of (if b then word_of u else 0) ≡ word_of (if b then u else 0)
cut_choice true u = mod-mod u (2 ^ 64)
cut_choice false u = refl

-- up to the row's start there is nothing
pub row_begun : (start end n : ℕ) (column value word : ℕ → ℕ) (first count : ℕ) → first ≡ min start count
    → 0 ≡ word_of (total (row_at start end n column value word) first)
row_begun start end n column value word first count cut =
    let f : ℕ → ℕ = row_at start end n column value word in
    let flat : total f first ≡ total f 0 =
    total-flat f 0 first (omega arith) (λ j from to. before_start start end n column value word j (omega arith)) in
    sym (ap word_of flat)

-- one position more
pub row_more : (start end n : ℕ) (column value word : ℕ → ℕ) (p first last count sum term later : ℕ)
    → first ≡ min start count → last ≡ min end count → first ≤ p → p < last
    → sum ≡ word_of (total (row_at start end n column value word) p)
    → term ≡ (if nat_lt (column p) n then word_of (value p * word (column p)) else 0)
    → later ≡ word_of (sum + term)
    → later ≡ word_of (total (row_at start end n column value word) (p + 1))
row_more start end n column value word p first last count sum term later cut_start cut_end from to before is after =
    sum_more (row_at start end n column value word) p sum term later before
    (ap word_of is
    ∙ cut_choice (nat_lt (column p) n) (value p * word (column p))
    ∙ sym (ap word_of (in_row start end n column value word p (omega arith) (omega arith))))
    after

-- from the row's end on there is nothing
pub row_done : (start end n : ℕ) (column value word : ℕ → ℕ) (p last count sum : ℕ) → last ≡ min end count → last ≤ p → p ≤ count
    → sum ≡ word_of (total (row_at start end n column value word) p)
    → sum ≡ word_of (total (row_at start end n column value word) count)
row_done start end n column value word p last count sum cut behind within before =
    let f : ℕ → ℕ = row_at start end n column value word in
    let flat : total f count ≡ total f p =
    total-flat f p count within (λ j from to. from_end start end n column value word j (omega arith)) in
    before ∙ sym (ap word_of flat)

-- what a position gives is the same by other functions that agree with these where it looks
row_same : (start end n : ℕ) (column value word other_column other_value other_word : ℕ → ℕ) (p : ℕ) → column p ≡ other_column p
    → value p ≡ other_value p → ((j : ℕ) → j < n → word j ≡ other_word j)
    → row_at start end n column value word p ≡ row_at start end n other_column other_value other_word p
row_same start end n column value word other_column other_value other_word p same_column same_value same_word =
    ap₂ (λ (k : ℕ) (u : ℕ). if nat_le start p && nat_lt p end && nat_lt k n then u * word k else 0) same_column same_value
    ∙ by_test (nat_lt (other_column p) n)
    (λ t. ap (λ (u : ℕ). if nat_le start p && nat_lt p end && nat_lt (other_column p) n then other_value p * u else 0)
    (same_word (other_column p) (grind (arith, nat_tests))))
    (λ f. third_fails (nat_le start p) (nat_lt p end) (nat_lt (other_column p) n) _ f
    ∙ sym (third_fails (nat_le start p) (nat_lt p end) (nat_lt (other_column p) n) _ f))

-- a row of lists that are the words of ranges is a row of these
pub row_of_words : (w : Words) (s c v x : Range) (i : ℕ) (starts columns values vector : List ℕ) → i + 1 < length_of s → length_of c ≡ length_of v
    → starts ≡ words_in w s → columns ≡ words_in w c → values ≡ words_in w v → vector ≡ words_in w x
    → total (row_at (get_or starts i 0) (get_or starts (i + 1) 0) (length vector) (λ p. get_or columns p 0) (λ p. get_or values p 0)
    (λ p. get_or vector p 0)) (length values)
    ≡ total (product_at w s c v x i) (length_of v)
row_of_words w s c v x i starts columns values vector inside same are_starts are_columns are_values are_vector =
    let start : get_or starts i 0 ≡ nth_word w s i = word_read w s starts are_starts i (omega arith) in
    let end : get_or starts (i + 1) 0 ≡ nth_word w s (i + 1) = word_read w s starts are_starts (i + 1) inside in
    let n : length vector ≡ length_of x = words_long w x vector are_vector in
    let count : length values ≡ length_of v = words_long w v values are_values in
    let columns_of : ℕ → ℕ = λ p. get_or columns p 0 in
    let values_of : ℕ → ℕ = λ p. get_or values p 0 in
    let vector_of : ℕ → ℕ = λ p. get_or vector p 0 in
    ap (λ (k : ℕ). total (row_at k (get_or starts (i + 1) 0) (length vector) columns_of values_of vector_of) (length values)) start
    ∙ ap (λ (k : ℕ). total (row_at (nth_word w s i) k (length vector) columns_of values_of vector_of) (length values)) end
    ∙ ap (λ (k : ℕ). total (row_at (nth_word w s i) (nth_word w s (i + 1)) k columns_of values_of vector_of) (length values)) n
    ∙ ap (total (row_at (nth_word w s i) (nth_word w s (i + 1)) (length_of x) columns_of values_of vector_of)) count
    ∙ total-same (row_at (nth_word w s i) (nth_word w s (i + 1)) (length_of x) columns_of values_of vector_of) (product_at w s c v x i) (length_of v)
    (λ p short. row_same (nth_word w s i) (nth_word w s (i + 1)) (length_of x) columns_of values_of vector_of (nth_word w c) (nth_word w v)
    (nth_word w x) p (word_read w c columns are_columns p (omega arith)) (word_read w v values are_values p short)
    (λ j below. word_read w x vector are_vector j below))

-- the same for the words of ranges
pub product_begun : (w : Words) (s c v x : Range) (i first count : ℕ) → first ≡ min (nth_word w s i) count
    → 0 ≡ word_of (total (product_at w s c v x i) first)
product_begun w s c v x i first count cut =
    row_begun (nth_word w s i) (nth_word w s (i + 1)) (length_of x) (nth_word w c) (nth_word w v) (nth_word w x) first count cut

pub product_more : (w : Words) (s c v x : Range) (i p first last count sum term later : ℕ)
    → first ≡ min (nth_word w s i) count → last ≡ min (nth_word w s (i + 1)) count → first ≤ p → p < last
    → sum ≡ word_of (total (product_at w s c v x i) p)
    → term ≡ (if nat_lt (nth_word w c p) (length_of x) then word_of (nth_word w v p * nth_word w x (nth_word w c p)) else 0)
    → later ≡ word_of (sum + term) → later ≡ word_of (total (product_at w s c v x i) (p + 1))
product_more w s c v x i = row_more (nth_word w s i) (nth_word w s (i + 1)) (length_of x) (nth_word w c) (nth_word w v) (nth_word w x)

pub product_done : (w : Words) (s c v x : Range) (i p last count sum : ℕ) → last ≡ min (nth_word w s (i + 1)) count → last ≤ p → p ≤ count
    → sum ≡ word_of (total (product_at w s c v x i) p) → sum ≡ word_of (total (product_at w s c v x i) count)
product_done w s c v x i = row_done (nth_word w s i) (nth_word w s (i + 1)) (length_of x) (nth_word w c) (nth_word w v) (nth_word w x)
