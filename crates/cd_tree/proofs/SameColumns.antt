-- What an operation writes comes from the words of its sources alone.
use Rattle.std.proofs.Common.{◌≡◌, ℕ, zero, suc, ◌+◌, ◌*◌, ◌-◌, ◌^◌, ◌<◌, ◌≤◌, inl, inr, sym, [], Bool, true, false, ◌&&◌, ◌||◌, nat_lt, nat_le, if◌then◌else◌, cond, List, ◌∷◌, Option, Some, unwrap_or, arith, refl, ap, ap₂, ◌∙◌}
use Rattle.std.proofs.lemmas.Bool.{or_left, or_right, ltb-true, cond-false, cases_Bool}
use Rattle.cd_base.specs.declared.place.Place.{Place}
use Rattle.cd_base.specs.declared.place.Range.{Range}
use Rattle.cd_base.specs.Words.{Words, PlaceSet, word_of, in_range, in_ranges}
use Rattle.cd_tree.specs.declared.operation.Op.{Op}
use Rattle.cd_tree.specs.declared.operation.Op.TheVariants.{Fill, Copy, Add, Sub, Mul, Axpy, Scan, Sum, Dot, Max, Stencil, Spmv}
use Rattle.cd_tree.specs.Operations.{column, op_reads, op_writes, op_meaning, length_of, nth_word, total, greatest, product_at, FitsShape}
use Rattle.cd_tree.specs.Meaning.{LieIn}
use Rattle.cd_tree.specs.Locality.{SameWords, SameNth, SameFirst, SameSources, in_either}
use Rattle.cd_base.proofs.PlaceLemmas.{Inside, inside_from, inside_to}

-- sums of the same terms are the same
pub total-same : (f g : ℕ → ℕ) (n : ℕ) → ((j : ℕ) → j < n → f j ≡ g j) → total f n ≡ total g n
total-same f g zero same = refl
total-same f g (suc n) same =
    let last : f n ≡ g n = same n (omega arith) in
    let front : total f n ≡ total g n = total-same f g n (λ j h. same j (omega arith)) in
    cc

pub greatest-same : (f g : ℕ → ℕ) (n : ℕ) → ((j : ℕ) → j < n → f j ≡ g j) → greatest f n ≡ greatest g n
greatest-same f g zero same = refl
greatest-same f g (suc n) same =
    let last : f n ≡ g n = same n (omega arith) in
    let front : greatest f n ≡ greatest g n = greatest-same f g n (λ j h. same j (omega arith)) in
    cc

-- what three tests let through need agree only where the last holds
pub guarded : (a b c : Bool) (u v : ℕ) → (c ≡ true → u ≡ v) → (if a && b && c then u else 0) ≡ (if a && b && c then v else 0)
guarded true true true u v same = same refl
guarded true true false u v same = refl
guarded true false true u v same = refl
guarded true false false u v same = refl
guarded false true true u v same = refl
guarded false true false u v same = refl
guarded false false true u v same = refl
guarded false false false u v same = refl

-- what a position gives to a row, from the words that it depends on
abbrev given : (from to column value word p count : ℕ) → ℕ
given from to column value word p count =
    if nat_le from p && nat_lt p to && nat_lt column count then value * word else 0

-- a position gives the same from words that agree on all sources
pub product_same : (v w : Words) (s c values x : Range) (i p : ℕ)
    → SameNth s v w i → SameNth s v w (i + 1) → SameNth c v w p → SameNth values v w p → SameFirst x (length_of x) v w
    → product_at v s c values x i p ≡ product_at w s c values x i p
product_same v w s c values x i p from to column value vector =
    ap (λ (k : ℕ). given k (nth_word v s (i + 1)) (nth_word v c p) (nth_word v values p) (nth_word v x (nth_word v c p)) p (length_of x)) from
    ∙ ap (λ (k : ℕ). given (nth_word w s i) k (nth_word v c p) (nth_word v values p) (nth_word v x (nth_word v c p)) p (length_of x)) to
    ∙ ap (λ (k : ℕ). given (nth_word w s i) (nth_word w s (i + 1)) k (nth_word v values p) (nth_word v x k) p (length_of x)) column
    ∙ ap (λ (k : ℕ). given (nth_word w s i) (nth_word w s (i + 1)) (nth_word w c p) k (nth_word v x (nth_word w c p)) p (length_of x)) value
    ∙ guarded (nat_le (nth_word w s i) p) (nat_lt p (nth_word w s (i + 1))) (nat_lt (nth_word w c p) (length_of x)) _ _
    (λ t. ap (λ (k : ℕ). nth_word w values p * k) (vector (nth_word w c p) (ltb-true (nth_word w c p) (length_of x) t)))

-- a word of the destination from the same sources
pub column_is_local : (op : Op) (v w : Words) (i : ℕ) → SameSources op v w i → column op v i ≡ column op w i
column_is_local (Fill d k) v w i same = refl
column_is_local (Copy d x) v w i same = same
column_is_local (Add d x z) v w i (first, second) = ap₂ (λ (a b : ℕ). word_of (a + b)) first second
column_is_local (Sub d x z) v w i (first, second) = ap₂ (λ (a b : ℕ). word_of (a + (2 ^ 64 - b))) first second
column_is_local (Mul d x z) v w i (first, second) = ap₂ (λ (a b : ℕ). word_of (a * b)) first second
column_is_local (Axpy d k x) v w i (first, second) = ap₂ (λ (a b : ℕ). word_of (a + k * b)) first second
column_is_local (Scan d x) v w i same = ap word_of (total-same (nth_word v x) (nth_word w x) (suc i) same)
column_is_local (Sum d x) v w i same = ap word_of (total-same (nth_word v x) (nth_word w x) (length_of x) same)
column_is_local (Dot d x z) v w i (first, second) =
    ap word_of (total-same (λ j. nth_word v x j * nth_word v z j) (λ j. nth_word w x j * nth_word w z j) (length_of x)
    (λ j h. ap₂ (λ (a b : ℕ). a * b) (first j h) (second j h)))
column_is_local (Max d x) v w i same = greatest-same (nth_word v x) (nth_word w x) (length_of x) same
column_is_local (Stencil d a b c x) v w i (first, second, third) =
    ap (λ (k : ℕ). word_of (a * k + b * nth_word v x (i + 1) + c * nth_word v x (i + 2))) first
    ∙ ap₂ (λ (m n : ℕ). word_of (a * nth_word w x i + b * m + c * n)) second third
column_is_local (Spmv d s c values x) v w i (from, to, columns, words, vector) =
    ap word_of (total-same (product_at v s c values x i) (product_at w s c values x i) (length_of values)
    (λ p h. product_same v w s c values x i p from to (columns p h) (words p h) vector))

-- words that agree in a range have the same words there
nth_same : (r : Range) (v w : Words) → SameWords (in_range r) v w → SameFirst r (length_of r) v w
nth_same r v w same j below =
    let p : Place = record { region = r.region; index = r.low + j } in
    ap (λ (o : Option ℕ). unwrap_or o 0) (same p (inside_to r p (record { region = refl; low = omega arith; high = omega arith })))

-- of the first of some ranges, and of the others
in_first : (r : Range) (rs : List Range) (v w : Words) → SameWords (in_ranges (r ∷ rs)) v w → SameFirst r (length_of r) v w
in_first r rs v w same = nth_same r v w (λ p h. same p (or_left (in_range r p) (in_ranges rs p) h))

in_others : (r : Range) (rs : List Range) (v w : Words) → SameWords (in_ranges (r ∷ rs)) v w → SameWords (in_ranges rs) v w
in_others r rs v w same p h = same p (or_right (in_range r p) (in_ranges rs p) h)

-- an operation of the right shape takes each word of its destination from its sources
same_sources : (op : Op) (v w : Words) (i : ℕ) → FitsShape op → i < length_of (op_writes op) → SameWords (in_ranges (op_reads op)) v w
    → SameSources op v w i
same_sources (Fill d k) v w i shape short same = tt
same_sources (Copy d x) v w i shape short same = in_first x [] v w same i (omega (arith, shape.0))
same_sources (Add d x z) v w i shape short same = (
  in_first x (z ∷ []) v w same i (omega (arith, shape.0.0)),
  in_first z [] v w (in_others x (z ∷ []) v w same) i (omega (arith, shape.1.0)),
)
same_sources (Sub d x z) v w i shape short same = (
  in_first x (z ∷ []) v w same i (omega (arith, shape.0.0)),
  in_first z [] v w (in_others x (z ∷ []) v w same) i (omega (arith, shape.1.0)),
)
same_sources (Mul d x z) v w i shape short same = (
  in_first x (z ∷ []) v w same i (omega (arith, shape.0.0)),
  in_first z [] v w (in_others x (z ∷ []) v w same) i (omega (arith, shape.1.0)),
)
same_sources (Axpy d k x) v w i shape short same = (
  in_first d (x ∷ []) v w same i short,
  in_first x [] v w (in_others d (x ∷ []) v w same) i (omega (arith, shape.0)),
)
same_sources (Scan d x) v w i shape short same = λ j h. in_first x [] v w same j (omega (arith, shape.0, h))
same_sources (Sum d x) v w i shape short same = in_first x [] v w same
same_sources (Dot d x z) v w i shape short same = (
  in_first x (z ∷ []) v w same,
  λ j h. in_first z [] v w (in_others x (z ∷ []) v w same) j (omega (arith, shape.1, h)),
)
same_sources (Max d x) v w i shape short same = in_first x [] v w same
same_sources (Stencil d a b c x) v w i shape short same = (
  in_first x [] v w same i (omega (arith, shape.0)),
  in_first x [] v w same (i + 1) (omega (arith, shape.0)),
  in_first x [] v w same (i + 2) (omega (arith, shape.0)),
)
same_sources (Spmv d s c values x) v w i shape short same =
    let behind : SameWords (in_ranges (c ∷ values ∷ x ∷ [])) v w = in_others s (c ∷ values ∷ x ∷ []) v w same in
    let last : SameWords (in_ranges (values ∷ x ∷ [])) v w = in_others c (values ∷ x ∷ []) v w behind in (
      in_first s (c ∷ values ∷ x ∷ []) v w same i (omega (arith, shape.0)),
      in_first s (c ∷ values ∷ x ∷ []) v w same (i + 1) (omega (arith, shape.0)),
      λ j h. in_first c (values ∷ x ∷ []) v w behind j (omega (arith, shape.1, h)),
      in_first values (x ∷ []) v w last,
      in_first x [] v w (in_others values (x ∷ []) v w last),
    )

-- one of two holds, and the second does not
pub first_of_two : (a b : Bool) → (a || b) ≡ true → b ≡ false → a ≡ true
first_of_two true b h f = refl
first_of_two false b h f = absurd (cc)

-- a choice is the same where each of its words is the same where it is chosen
pub choice_same : (b : Bool) (x y z u : Option ℕ) → (b ≡ true → x ≡ y) → (b ≡ false → z ≡ u) → cond b x z ≡ cond b y u
choice_same true x y z u first second = first refl
choice_same false x y z u first second = second refl

-- the words that an operation writes are the same where its sources are
pub operation_is_local : (op : Op) (v w : Words) → FitsShape op → SameWords (in_ranges (op_reads op)) v w
    → SameWords (in_range (op_writes op)) (op_meaning op v) (op_meaning op w)
operation_is_local op v w shape same p inside =
    let d : Range = op_writes op in
    let at : Inside d p = inside_from d p inside in
    let low : d.low ≤ p.index = at.low in
    let high : p.index < d.high = at.high in
    choice_same (in_range d p) (Some (column op v (p.index - d.low))) (Some (column op w (p.index - d.low))) (v p) (w p)
    (λ t. ap (λ (k : ℕ). Some k) (column_is_local op v w (p.index - d.low) (same_sources op v w (p.index - d.low) shape (omega arith) same)))
    (λ f. absurd (cc))

pub operation_leaves_others : (op : Op) (w : Words) (p : Place) → in_range (op_writes op) p ≡ false → op_meaning op w p ≡ w p
operation_leaves_others op w p outside =
    cond-false (in_range (op_writes op) p) (Some (column op w (p.index - (op_writes op).low))) (w p) outside

pub operation_keeps_agreement : (op : Op) (places : PlaceSet) (v w : Words) → FitsShape op → LieIn (in_ranges (op_reads op)) places
    → SameWords places v w → SameWords (in_either places (in_range (op_writes op))) (op_meaning op v) (op_meaning op w)
operation_keeps_agreement op places v w shape reads same p h =
    elim (cases_Bool (in_range (op_writes op) p)) [
      | inl inside ↦ operation_is_local op v w shape (λ q r. same q (reads q r)) p inside
      | inr outside ↦
          operation_leaves_others op v p outside ∙ same p (first_of_two (places p) (in_range (op_writes op) p) h outside)
          ∙ sym (operation_leaves_others op w p outside)
    ]
