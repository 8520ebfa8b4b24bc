-- Sets of kinds inside one another, bit by bit.
use Rattle.std.proofs.Common.{◌≡◌, ℕ, ◌/◌, ◌%◌, ◌^◌, ◌≤◌, Bool, true, false, cond, ◌&&◌, ◌==◌, nat_lt, bit_or, bit_and, IsTrue, List, [], ◌∷◌, All, refl, ap, arith, inl, inr}
use Rattle.std.proofs.lemmas.Bool.{cases_eq, eqb-true}
use Rattle.std.proofs.lemmas.Nat.Bits.{bit_at_or, bit_at_and, bit_at_xor, bit_at-zero, bit_at-lt, bit_at-pow_same, bit_at-pow_other, same_from_bits}
use Rattle.std.proofs.lemmas.List.Elements.{All-head, All-tail}
use Rattle.std.specs.Int.{bit_at}
use Rattle.cd_tree.specs.declared.domain.NodeId.{NodeId}
use Rattle.cd_tree.specs.declared.document.Fault.{Fault}
use Rattle.cd_tree.specs.declared.kinds.Kind.{Kind}
use Rattle.cd_tree.specs.KindSets.{no_kinds, only_kind, has_kind, kinds_without}
use Rattle.cd_tree.specs.Scripts.{strikes_at, struck, kinds_of}

-- each of the kinds is among the others
pub record IsWithin (kinds others : ℕ) : Type 0 where
  pub each : (i : ℕ) → bit_at kinds i ≤ bit_at others i

pub none_within : (others : ℕ) → IsWithin no_kinds others
none_within others = record { each = λ i. omega (arith, bit_at-zero i) }

pub or_within : (a b others : ℕ) → IsWithin a others → IsWithin b others → IsWithin (bit_or a b) others
or_within a b others p q = record { each = λ i. omega (arith, bit_at_or a b i, p.each i, q.each i) }

pub and_within : (a b others : ℕ) → IsWithin a others → IsWithin (bit_and a b) others
and_within a b others p = record { each = λ i. omega (arith, bit_at_and a b i, p.each i) }

-- what is within either of two sets, without the second, is within the first
pub without_within : (kinds above detects : ℕ) → IsWithin kinds (bit_or above detects) → IsWithin (kinds_without kinds detects) above
without_within kinds above detects p =
    record {
      each = λ i.
          omega (
            arith,
            bit_at_xor kinds (bit_and kinds detects) i,
            bit_at_and kinds detects i,
            bit_at_or above detects i,
            p.each i,
            bit_at-lt kinds i,
            bit_at-lt detects i,
            bit_at-lt above i,
          );
    }

-- what is within either of two sets and has nothing of the second is within the first
pub apart_within : (kinds above detects : ℕ) → IsWithin kinds (bit_or above detects) → bit_and kinds detects ≡ no_kinds → IsWithin kinds above
apart_within kinds above detects p none =
    record {
      each = λ i.
          let here : bit_at (bit_and kinds detects) i ≡ bit_at 0 i = ap (λ n. bit_at n i) none in
          omega (
            arith,
            bit_at_and kinds detects i,
            bit_at-zero i,
            bit_at_or above detects i,
            p.each i,
            bit_at-lt kinds i,
            bit_at-lt detects i,
            bit_at-lt above i,
          );
    }

pub within_none : (kinds : ℕ) → IsWithin kinds no_kinds → kinds ≡ no_kinds
within_none kinds p = same_from_bits kinds no_kinds (λ i. omega (arith, p.each i, bit_at-zero i))

both : (x y : Bool) → (x && y) ≡ true → (x ≡ true) × (y ≡ true)
both true y e = (refl, e)
both false y e = absurd (cc)

power_within : (k others : ℕ) → bit_at others k ≡ 1 → IsWithin (2 ^ k) others
power_within k others has =
    record {
      each = λ i.
          elim (cases_eq i k) [
            | inl same ↦ rw same (omega (arith, bit_at-pow_same k, has))
            | inr other ↦ omega (arith, bit_at-pow_other k i other)
          ];
    }

one_within_if : (b : Bool) (k others : ℕ) → bit_at others k ≡ 1 → IsWithin (cond b (2 ^ k) 0) others
one_within_if true k others has = power_within k others has
one_within_if false k others has = none_within others

-- a kind that a set has
pub one_within : (kind : Kind) (others : ℕ) → IsTrue (has_kind others kind) → IsWithin (only_kind kind) others
one_within kind others has =
    one_within_if (nat_lt kind.0 16) kind.0 others
    (eqb-true (bit_at others kind.0) 1 (both (nat_lt kind.0 16) ((others / 2 ^ kind.0) % 2 == 1) has).1)

struck_step : (b : Bool) (fault : Fault) (rest : List Fault) (others : ℕ)
    → (b ≡ true → IsTrue (has_kind others fault.kind)) → IsWithin (kinds_of rest) others
    → IsWithin (kinds_of (cond b (fault ∷ rest) rest)) others
struck_step true fault rest others found within =
    or_within (only_kind fault.kind) (kinds_of rest) others (one_within fault.kind others (found refl)) within
struck_step false fault rest others found within = within

-- the kinds of the faults that strike at a domain are within a set that has each kind of the domain's faults
pub struck_within : (faults : List Fault) (id : NodeId) (begin point others : ℕ)
    → All (λ (fault : Fault). fault.node.0 ≡ id.0 → IsTrue (has_kind others fault.kind)) faults
    → IsWithin (kinds_of (struck faults id begin point)) others
struck_within [] id begin point others found = none_within others
struck_within (fault ∷ faults) id begin point others found =
    let P : Fault → Type 0 = λ f. f.node.0 ≡ id.0 → IsTrue (has_kind others f.kind) in
    struck_step (strikes_at id begin point fault) fault (struck faults id begin point) others
    (λ strikes.
    All-head P fault faults found
    (eqb-true fault.node.0 id.0
    (both (fault.node.0 == id.0) (fault.begin == begin)
    (both ((fault.node.0 == id.0) && (fault.begin == begin)) (fault.item == point) strikes).0).0))
    (struck_within faults id begin point others (All-tail P fault faults found))
