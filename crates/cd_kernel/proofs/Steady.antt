-- What an operation gives to a word is the same after it has written words before that one.
use Rattle.std.proofs.Common.{◌≡◌, ℕ, ◌+◌, ◌<◌, ◌≤◌, true, false, Option, unwrap_or, arith, refl, ap, inl}
use Rattle.cd_base.specs.declared.place.Place.{Place}
use Rattle.cd_base.specs.declared.place.Range.{Range}
use Rattle.cd_base.specs.Words.{Words, in_range}
use Rattle.cd_tree.specs.declared.operation.Op.{Op}
use Rattle.cd_tree.specs.declared.operation.Op.TheVariants.{Fill, Copy, Add, Sub, Mul, Axpy, Scan, Sum, Dot, Max, Stencil, Spmv}
use Rattle.cd_tree.specs.Operations.{column, op_writes, length_of, nth_word, FitsShape, IsInStep, AreApart}
use Rattle.cd_tree.specs.Locality.{SameSources, ColumnIsLocal}
use Rattle.cd_kernel.specs.Computing.{nth_place, IsDirect}
use Rattle.cd_base.proofs.PlaceLemmas.{Inside, inside_from, inside_to}
use Rattle.std.proofs.lemmas.Bool.{cond-false, false_from_ne_true}
use Rattle.cd_kernel.proofs.Written.{words_to, first_of, still_there}

-- a source word that is still to be read
pub step_there : (op : Op) (w : Words) (x : Range) (n i : ℕ) → IsInStep (op_writes op) x → n ≤ i → i < length_of (op_writes op)
    → nth_word (words_to op w n) x i ≡ nth_word w x i
step_there op w x n i step ahead short =
    ap (λ (o : Option ℕ). unwrap_or o 0) (still_there op w x n i step ahead short)

-- a word of a source apart from the destination
pub apart_there : (op : Op) (w : Words) (x : Range) (n i : ℕ) → AreApart (op_writes op) x → n ≤ length_of (op_writes op)
    → i < length_of x → nth_word (words_to op w n) x i ≡ nth_word w x i
apart_there op w x n i apart short inside =
    let d : Range = op_writes op in
    let p : Place = nth_place x i in
    ap (λ (o : Option ℕ). unwrap_or o 0) (cond-false (in_range (first_of d n) p) _ _ (false_from_ne_true _ (λ t.
    let h : Inside (first_of d n) p = inside_from _ _ t in
    let high : x.low + i < d.low + n = h.high in
    let low : d.low ≤ x.low + i = h.low in
    let in_d : in_range d p ≡ true = inside_to d p (record { region = h.region; low = low; high = omega arith }) in
    let in_x : in_range x p ≡ true = inside_to x p (record { region = refl; low = omega arith; high = omega arith }) in
    let out : in_range x p ≡ false = apart p in_d in
    cc)))

-- the words that a word comes from are still as they were, where those before it have been written
sources_stay : (op : Op) (w : Words) (n i : ℕ) → IsDirect op → FitsShape op → n ≤ i → i < length_of (op_writes op)
    → SameSources op (words_to op w n) w i
sources_stay (Fill d k) w n i direct shape ahead short = tt
sources_stay (Copy d x) w n i direct shape ahead short = step_there (Copy d x) w x n i shape ahead short
sources_stay (Add d x z) w n i direct shape ahead short =
    (step_there (Add d x z) w x n i shape.0 ahead short, step_there (Add d x z) w z n i shape.1 ahead short)
sources_stay (Sub d x z) w n i direct shape ahead short =
    (step_there (Sub d x z) w x n i shape.0 ahead short, step_there (Sub d x z) w z n i shape.1 ahead short)
sources_stay (Mul d x z) w n i direct shape ahead short =
    (step_there (Mul d x z) w x n i shape.0 ahead short, step_there (Mul d x z) w z n i shape.1 ahead short)
sources_stay (Axpy d k x) w n i direct shape ahead short =
    (step_there (Axpy d k x) w d n i (refl, inl refl) ahead short, step_there (Axpy d k x) w x n i shape ahead short)
sources_stay (Scan d x) w n i direct shape ahead short = absurd direct
sources_stay (Sum d x) w n i direct shape ahead short = λ j h. apart_there (Sum d x) w x n j shape.1 (omega arith) h
sources_stay (Dot d x z) w n i direct shape ahead short = (
  λ j h. apart_there (Dot d x z) w x n j shape.2 (omega arith) h,
  λ j h. apart_there (Dot d x z) w z n j shape.3 (omega arith) (omega (arith, h, shape.1)),
)
sources_stay (Max d x) w n i direct shape ahead short = λ j h. apart_there (Max d x) w x n j shape.1 (omega arith) h
sources_stay (Stencil d a b c x) w n i direct shape ahead short = (
  apart_there (Stencil d a b c x) w x n i shape.1 (omega arith) (omega (arith, shape.0)),
  apart_there (Stencil d a b c x) w x n (i + 1) shape.1 (omega arith) (omega (arith, shape.0)),
  apart_there (Stencil d a b c x) w x n (i + 2) shape.1 (omega arith) (omega (arith, shape.0)),
)
sources_stay (Spmv d s c v x) w n i direct shape ahead short = (
  apart_there (Spmv d s c v x) w s n i shape.2 (omega arith) (omega (arith, shape.0)),
  apart_there (Spmv d s c v x) w s n (i + 1) shape.2 (omega arith) (omega (arith, shape.0)),
  λ j h. apart_there (Spmv d s c v x) w c n j shape.3 (omega arith) (omega (arith, h, shape.1)),
  λ j h. apart_there (Spmv d s c v x) w v n j shape.4 (omega arith) h,
  λ j h. apart_there (Spmv d s c v x) w x n j shape.5 (omega arith) h,
)

-- by the law on columns, which the caller has
pub column_stays : ColumnIsLocal → (op : Op) (w : Words) (n i : ℕ) → IsDirect op → FitsShape op → n ≤ i → i < length_of (op_writes op)
    → column op (words_to op w n) i ≡ column op w i
column_stays law op w n i direct shape ahead short = law op (words_to op w n) w i (sources_stay op w n i direct shape ahead short)
