-- The meaning of the twelve operations, and which places each reads and writes.
use Rattle.std.specs.Prelude.{◌≡◌, ℕ, zero, suc, ◌+◌, ◌*◌, ◌-◌, ◌^◌, ◌<◌, ◌⊎◌, min, max, Bool, true, false, not, ◌&&◌, ◌||◌, ◌==◌, nat_lt, nat_le, if◌then◌else◌, List, [], ◌∷◌, Some}
use Rattle.cd_base.specs.declared.place.Place.{Place}
use Rattle.cd_base.specs.declared.place.Range.{Range}
use Rattle.cd_base.specs.Words.{Words, word_at, word_of, in_range}
use Rattle.cd_tree.specs.declared.operation.Op.{Op}
use Rattle.cd_tree.specs.declared.operation.Op.TheVariants.{Fill, Copy, Add, Sub, Mul, Axpy, Scan, Sum, Dot, Max, Stencil, Spmv}

-- the sources in the order of the text
abbrev pub op_reads : Op → List Range
op_reads (Fill d k) = []
op_reads (Copy d x) = x ∷ []
op_reads (Add d x z) = x ∷ z ∷ []
op_reads (Sub d x z) = x ∷ z ∷ []
op_reads (Mul d x z) = x ∷ z ∷ []
op_reads (Axpy d k x) = d ∷ x ∷ []
op_reads (Scan d x) = x ∷ []
op_reads (Sum d x) = x ∷ []
op_reads (Dot d x z) = x ∷ z ∷ []
op_reads (Max d x) = x ∷ []
op_reads (Stencil d a b c x) = x ∷ []
op_reads (Spmv d s c v x) = s ∷ c ∷ v ∷ x ∷ []

-- the destination
abbrev pub op_writes : Op → Range
op_writes (Fill d k) = d
op_writes (Copy d x) = d
op_writes (Add d x z) = d
op_writes (Sub d x z) = d
op_writes (Mul d x z) = d
op_writes (Axpy d k x) = d
op_writes (Scan d x) = d
op_writes (Sum d x) = d
op_writes (Dot d x z) = d
op_writes (Max d x) = d
op_writes (Stencil d a b c x) = d
op_writes (Spmv d s c v x) = d

abbrev pub length_of : Range → ℕ
length_of r = r.high - r.low

-- the i-th word of a range
abbrev pub nth_word : Words → Range → ℕ → ℕ
nth_word w r i = word_at w (record { region = r.region; index = r.low + i })

-- f 0 + .. + f (n - 1)
abbrev pub total : (ℕ → ℕ) → ℕ → ℕ
total f zero = 0
total f (suc n) = total f n + f n

-- the greatest of f 0 .. f (n - 1), or 0
abbrev pub greatest : (ℕ → ℕ) → ℕ → ℕ
greatest f zero = 0
greatest f (suc n) = max (greatest f n) (f n)

-- what position p gives to row i of a sparse product: nothing where it is not in the row, or its column has no word
abbrev pub product_at : Words → Range → Range → Range → Range → ℕ → ℕ → ℕ
product_at w s c v x i p =
    if nat_le (nth_word w s i) p && nat_lt p (nth_word w s (i + 1)) && nat_lt (nth_word w c p) (length_of x)
    then nth_word w v p * nth_word w x (nth_word w c p)
    else 0

-- word i of the destination after the operation, in terms of the words before
abbrev pub column : Op → Words → ℕ → ℕ
column (Fill d k) w i = k
column (Copy d x) w i = nth_word w x i
column (Add d x z) w i = word_of (nth_word w x i + nth_word w z i)
column (Sub d x z) w i = word_of (nth_word w x i + (2 ^ 64 - nth_word w z i))
column (Mul d x z) w i = word_of (nth_word w x i * nth_word w z i)
column (Axpy d k x) w i = word_of (nth_word w d i + k * nth_word w x i)
column (Scan d x) w i = word_of (total (nth_word w x) (suc i))
column (Sum d x) w i = word_of (total (nth_word w x) (length_of x))
column (Dot d x z) w i = word_of (total (λ j. nth_word w x j * nth_word w z j) (length_of x))
column (Max d x) w i = greatest (nth_word w x) (length_of x)
column (Stencil d a b c x) w i =
    word_of (a * nth_word w x i + b * nth_word w x (i + 1) + c * nth_word w x (i + 2))
column (Spmv d s c v x) w i = word_of (total (product_at w s c v x i) (length_of v))

-- the words after an operation: its column in the destination, all others as before
abbrev pub op_meaning : Op → Words → Words
op_meaning op w = λ p. if in_range (op_writes op) p then Some (column op w (p.index - (op_writes op).low)) else w p

-- a range with a place
abbrev pub IsFull : Range → Type 0
IsFull r = r.low < r.high

-- two ranges without a common place
abbrev pub AreApart : Range → Range → Type 0
AreApart r s = (p : Place) → in_range r p ≡ true → in_range s p ≡ false

-- a source of the destination's length that is the destination itself, or apart from it
abbrev pub IsInStep : Range → Range → Type 0
IsInStep d x = (length_of x ≡ length_of d) × ((x ≡ d) ⊎ AreApart d x)

-- the lengths and ranges that an operation must have
abbrev pub FitsShape : Op → Type 0
FitsShape (Fill d k) = Unit {0}
FitsShape (Copy d x) = IsInStep d x
FitsShape (Add d x z) = IsInStep d x × IsInStep d z
FitsShape (Sub d x z) = IsInStep d x × IsInStep d z
FitsShape (Mul d x z) = IsInStep d x × IsInStep d z
FitsShape (Axpy d k x) = IsInStep d x
FitsShape (Scan d x) = IsInStep d x
FitsShape (Sum d x) = (length_of d ≡ 1) × AreApart d x
FitsShape (Dot d x z) = (length_of d ≡ 1) × (length_of x ≡ length_of z) × AreApart d x × AreApart d z
FitsShape (Max d x) = (length_of d ≡ 1) × AreApart d x
FitsShape (Stencil d a b c x) = (length_of x ≡ length_of d + 2) × AreApart d x
FitsShape (Spmv d s c v x) =
    (length_of s ≡ length_of d + 1) × (length_of c ≡ length_of v)
    × AreApart d s × AreApart d c × AreApart d v × AreApart d x

-- ---- the same as tests: a reader of texts asks them too

abbrev pub is_same_range : Range → Range → Bool
is_same_range r s = (r.region == s.region) && ((r.low == s.low) && (r.high == s.high))

abbrev pub is_apart : Range → Range → Bool
is_apart r s = not (r.region == s.region) || nat_le (min r.high s.high) (max r.low s.low)

abbrev pub are_both_apart : Range → Range → Range → Bool
are_both_apart d x z = is_apart d x && is_apart d z

abbrev pub is_in_step : Range → Range → Bool
is_in_step d x = (length_of x == length_of d) && (is_same_range x d || is_apart d x)

-- one word that is no word of the source
abbrev pub is_total : Range → Range → Bool
is_total d x = (length_of d == 1) && is_apart d x

abbrev pub is_dot : Range → Range → Range → Bool
is_dot d x z = (length_of d == 1) && ((length_of x == length_of z) && are_both_apart d x z)

abbrev pub is_stencil : Range → Range → Bool
is_stencil d x = (length_of x == length_of d + 2) && is_apart d x

abbrev pub is_spmv : Range → Range → Range → Range → Range → Bool
is_spmv d s c v x =
    ((length_of s == length_of d + 1) && (length_of c == length_of v)) && (are_both_apart d s c && are_both_apart d v x)

-- whether an operation fits its shape
abbrev pub fits_shape : Op → Bool
fits_shape (Fill d k) = true
fits_shape (Copy d x) = is_in_step d x
fits_shape (Add d x z) = is_in_step d x && is_in_step d z
fits_shape (Sub d x z) = is_in_step d x && is_in_step d z
fits_shape (Mul d x z) = is_in_step d x && is_in_step d z
fits_shape (Axpy d k x) = is_in_step d x
fits_shape (Scan d x) = is_in_step d x
fits_shape (Sum d x) = is_total d x
fits_shape (Dot d x z) = is_dot d x z
fits_shape (Max d x) = is_total d x
fits_shape (Stencil d a b c x) = is_stencil d x
fits_shape (Spmv d s c v x) = is_spmv d s c v x
