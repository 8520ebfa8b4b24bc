-- An operation that writes its destination word by word.
use Rattle.std.proofs.Common.{◌≡◌, ℕ, ◌+◌, ◌-◌, ◌<◌, ◌≤◌, true, false, Some, arith, refl, ap, if◌then◌else◌, inl, inr}
use Rattle.std.proofs.Math.Path.{fun_ext}
use Rattle.cd_base.specs.declared.place.Place.{Place}
use Rattle.cd_base.specs.declared.place.Range.{Range}
use Rattle.cd_base.specs.Words.{Words, in_range}
use Rattle.cd_tree.specs.declared.operation.Op.{Op}
use Rattle.cd_tree.specs.Operations.{column, op_meaning, op_writes, length_of, IsFull, IsInStep}
use Rattle.cd_kernel.specs.Computing.{nth_place}
use Rattle.cd_base.proofs.PlaceLemmas.{Inside, inside_from, inside_to}
use Rattle.std.proofs.lemmas.Bool.{cond-false, false_from_ne_true}

-- the first n places of a range
abbrev pub first_of : Range → ℕ → Range
first_of r n = record { region = r.region; low = r.low; high = r.low + n }

-- the words where the first n words of the destination are written
abbrev pub words_to : Op → Words → ℕ → Words
words_to op w n = λ p. if in_range (first_of (op_writes op) n) p then Some (column op w (p.index - (op_writes op).low)) else w p

pub none_written : (op : Op) (w : Words) → words_to op w 0 ≡ w
none_written op w = fun_ext (λ p.
    cond-false (in_range (first_of (op_writes op) 0) p) _ _
    (false_from_ne_true _ (λ t. let h : Inside (first_of (op_writes op) 0) p = inside_from _ _ t in
    let low : (op_writes op).low ≤ p.index = h.low in let high : p.index < (op_writes op).low + 0 = h.high in omega arith)))

-- with all words written, the operation is done
pub all_written : (op : Op) (w : Words) → IsFull (op_writes op) → words_to op w (length_of (op_writes op)) ≡ op_meaning op w
all_written op w full =
    let d : Range = op_writes op in
    let ends : d.low + (d.high - d.low) ≡ d.high = omega (arith, full) in
    ap (λ (high : ℕ). λ (p : Place). if in_range (record { region = d.region; low = d.low; high = high }) p then Some (column op w (p.index - d.low)) else w p) ends

-- a source word that is still to be read is as it was
pub still_there : (op : Op) (w : Words) (x : Range) (n i : ℕ) → IsInStep (op_writes op) x → n ≤ i → i < length_of (op_writes op)
    → words_to op w n (nth_place x i) ≡ w (nth_place x i)
still_there op w x n i step ahead short =
    let d : Range = op_writes op in
    let p : Place = nth_place x i in
    cond-false (in_range (first_of d n) p) _ _ (false_from_ne_true _ (λ t.
    let h : Inside (first_of d n) p = inside_from _ _ t in
    let high : x.low + i < d.low + n = h.high in
    let low : d.low ≤ x.low + i = h.low in
    elim step.1 [
      | inl same ↦ let e : x.low ≡ d.low = ap (λ (r : Range). r.low) same in omega arith
      | inr apart ↦
          let long : x.high - x.low ≡ d.high - d.low = step.0 in
          let in_d : in_range d p ≡ true = inside_to d p (record { region = h.region; low = low; high = omega (arith, high) }) in
          let in_x : in_range x p ≡ true = inside_to x p (record { region = refl; low = omega arith; high = omega arith }) in
          let out : in_range x p ≡ false = apart p in_d in
          cc
    ]))
