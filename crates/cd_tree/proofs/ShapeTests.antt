-- That an operation fits its shape, and the test of it, say the same.
use Rattle.std.proofs.Common.{◌≡◌, ◌↔◌, ◌+◌, Bool, true, ◌&&◌, ◌||◌, ◌==◌, ℕ, refl, ap, inl, inr}
use Rattle.std.proofs.lemmas.Bool.{and_parts, and_from, or_cases, or_left, or_right, eqb-true, eq-eqb}
use Rattle.cd_base.specs.declared.place.Range.{Range}
use Rattle.cd_base.proofs.PlaceLemmas.{range-same}
use Rattle.cd_tree.specs.declared.operation.Op.{Op}
use Rattle.cd_tree.specs.declared.operation.Op.TheVariants.{Fill, Copy, Add, Sub, Mul, Axpy, Scan, Sum, Dot, Max, Stencil, Spmv}
use Rattle.cd_tree.specs.Operations.{length_of, AreApart, IsInStep, FitsShape, is_same_range, is_apart, are_both_apart, is_in_step, is_total, fits_shape}
use Rattle.cd_tree.proofs.Apart.{apart_says}

-- ---- tests that say something, together

both_say : {A B : Type 0} (a b : Bool) → a ≡ true ↔ A → b ≡ true ↔ B → (a && b) ≡ true ↔ (A × B)
both_say a b one other = (
  λ test. let parts : (a ≡ true) × (b ≡ true) = and_parts a b test in (one.0 parts.0, other.0 parts.1),
  λ (p, q). and_from a b (one.1 p) (other.1 q),
)

equal_says : (m n : ℕ) → (m == n) ≡ true ↔ m ≡ n
equal_says m n = (eqb-true m n, eq-eqb m n)

same_says : (r s : Range) → is_same_range r s ≡ true ↔ r ≡ s
same_says r s = (
  λ test.
      let ends = both_say (r.region == s.region) ((r.low == s.low) && (r.high == s.high)) (equal_says r.region s.region)
      (both_say (r.low == s.low) (r.high == s.high) (equal_says r.low s.low) (equal_says r.high s.high)) in
      let parts = ends.0 test in
      range-same r s parts.0 parts.1.0 parts.1.1,
  λ same.
      and_from (r.region == s.region) ((r.low == s.low) && (r.high == s.high)) (eq-eqb r.region s.region (ap (λ (t : Range). t.region) same))
      (and_from (r.low == s.low) (r.high == s.high) (eq-eqb r.low s.low (ap (λ (t : Range). t.low) same))
      (eq-eqb r.high s.high (ap (λ (t : Range). t.high) same))),
)

step_says : (d x : Range) → is_in_step d x ≡ true ↔ IsInStep d x
step_says d x =
    both_say (length_of x == length_of d) (is_same_range x d || is_apart d x) (equal_says (length_of x) (length_of d)) (
      λ test. elim (or_cases (is_same_range x d) (is_apart d x) test) [
        | inl same ↦ inl ((same_says x d).0 same)
        | inr apart ↦ inr ((apart_says d x).0 apart)
      ],
      λ said. elim said [
        | inl same ↦ or_left (is_same_range x d) (is_apart d x) ((same_says x d).1 same)
        | inr apart ↦ or_right (is_same_range x d) (is_apart d x) ((apart_says d x).1 apart)
      ],
    )

both_apart_say : (d x z : Range) → are_both_apart d x z ≡ true ↔ (AreApart d x × AreApart d z)
both_apart_say d x z = both_say (is_apart d x) (is_apart d z) (apart_says d x) (apart_says d z)

both_step_say : (d x z : Range) → (is_in_step d x && is_in_step d z) ≡ true ↔ (IsInStep d x × IsInStep d z)
both_step_say d x z = both_say (is_in_step d x) (is_in_step d z) (step_says d x) (step_says d z)

total_says : (d x : Range) → is_total d x ≡ true ↔ ((length_of d ≡ 1) × AreApart d x)
total_says d x = both_say (length_of d == 1) (is_apart d x) (equal_says (length_of d) 1) (apart_says d x)

-- ---- operations

pub shape_says : (op : Op) → fits_shape op ≡ true ↔ FitsShape op
shape_says (Fill d k) = (λ test. tt, λ said. refl)
shape_says (Copy d x) = step_says d x
shape_says (Add d x z) = both_step_say d x z
shape_says (Sub d x z) = both_step_say d x z
shape_says (Mul d x z) = both_step_say d x z
shape_says (Axpy d k x) = step_says d x
shape_says (Scan d x) = step_says d x
shape_says (Sum d x) = total_says d x
shape_says (Dot d x z) =
    let lengths = both_say (length_of x == length_of z) (are_both_apart d x z) (equal_says (length_of x) (length_of z)) (both_apart_say d x z) in
    let all = both_say (length_of d == 1) ((length_of x == length_of z) && are_both_apart d x z) (equal_says (length_of d) 1) lengths in (
      λ test. let said = all.0 test in (said.0, said.1.0, said.1.1.0, said.1.1.1),
      λ (one, same, first, second). all.1 (one, (same, (first, second))),
    )
shape_says (Max d x) = total_says d x
shape_says (Stencil d a b c x) =
    both_say (length_of x == length_of d + 2) (is_apart d x) (equal_says (length_of x) (length_of d + 2)) (apart_says d x)
shape_says (Spmv d s c v x) =
    let lengths = both_say (length_of s == length_of d + 1) (length_of c == length_of v) (equal_says (length_of s) (length_of d + 1))
    (equal_says (length_of c) (length_of v)) in
    let apart = both_say (are_both_apart d s c) (are_both_apart d v x) (both_apart_say d s c) (both_apart_say d v x) in
    let all = both_say ((length_of s == length_of d + 1) && (length_of c == length_of v)) (are_both_apart d s c && are_both_apart d v x) lengths apart in (
      λ test. let said = all.0 test in (said.0.0, said.0.1, said.1.0.0, said.1.0.1, said.1.1.0, said.1.1.1),
      λ (rows, columns, a, b, e, f). all.1 ((rows, columns), ((a, b), (e, f))),
    )
