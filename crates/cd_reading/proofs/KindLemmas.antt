-- Sets of kinds, joined, and gathered from the front of a list of faults.
use Rattle.std.proofs.Common.{◌≡◌, ℕ, ◌+◌, ◌<◌, ◌≤◌, ◌==◌, Bool, true, false, if◌then◌else◌, bit_or, List, ◌∷◌, length, drop, get_or, filter, refl, sym, ap, ◌∙◌, arith, inl, inr}
use Rattle.std.proofs.lemmas.Bool.{cases_Bool, eqb-true}
use Rattle.std.proofs.lemmas.Nat.Bits.{bit_at_or, bit_at-zero, same_from_bits}
use Rattle.std.proofs.lemmas.List.{at_drop_more, drop_all}
use Rattle.cd_tree.specs.declared.document.Fault.{Fault}
use Rattle.cd_tree.specs.KindSets.{only_kind}
use Rattle.cd_tree.specs.Scripts.{kinds_of}
use Rattle.cd_tree.proofs.KindLemmas.{bit_or-assoc, bit_or-none}

pub neq-eqb : (a b : ℕ) → (a ≡ b → ⊥) → (a == b) ≡ false
neq-eqb a b other = elim (cases_Bool (a == b)) [ inl e ↦ absurd (other (eqb-true a b e)) | inr e ↦ e ]

-- a fault of zeros
abbrev pub no_fault : Fault
no_fault = record { node = record { 0 = 0 }; begin = 0; item = 0; kind = record { 0 = 0 }; place = record { region = 0; index = 0 }; mask = 0 }

pub none_or : (a : ℕ) → bit_or 0 a ≡ a
none_or a = same_from_bits (bit_or 0 a) a (λ i. omega (arith, bit_at_or 0 a i, bit_at-zero i))

-- ---- the kinds of the faults at a point

abbrev at_point : ℕ → Fault → Bool
at_point point fault = fault.item == point

kinds_next : (so : ℕ) (faults : List Fault) (point i : ℕ) (d : Fault) (b : Bool) → i < length faults → ((get_or faults i d).item == point) ≡ b
    → bit_or so (kinds_of (filter (at_point point) (drop i faults))) ≡ kinds_of (filter (at_point point) faults)
    → bit_or (if b then bit_or so (only_kind (get_or faults i d).kind) else so) (kinds_of (filter (at_point point) (drop (i + 1) faults)))
    ≡ kinds_of (filter (at_point point) faults)
kinds_next so faults point i d b within is left =
    let fault : Fault = get_or faults i d in
    let rest : List Fault = filter (at_point point) (drop (i + 1) faults) in
    by b
    ∙ sym (ap (λ (c : Bool). bit_or so (kinds_of (if c then fault ∷ rest else rest))) is)
    ∙ sym (ap (λ (n : ℕ). bit_or so n) (at_drop_more (λ fs. kinds_of (filter (at_point point) fs)) faults i d within))
    ∙ left
  where
    by : (c : Bool) → bit_or (if c then bit_or so (only_kind (get_or faults i d).kind) else so) (kinds_of (filter (at_point point) (drop (i + 1) faults)))
        ≡ bit_or so (kinds_of (if c then get_or faults i d ∷ filter (at_point point) (drop (i + 1) faults) else filter (at_point point) (drop (i + 1) faults)))
    by true = bit_or-assoc so (only_kind (get_or faults i d).kind) (kinds_of (filter (at_point point) (drop (i + 1) faults)))
    by false = refl

pub kinds_more : (so : ℕ) (faults : List Fault) (point i : ℕ) (d : Fault) → i < length faults → ((get_or faults i d).item == point) ≡ true
    → bit_or so (kinds_of (filter (at_point point) (drop i faults))) ≡ kinds_of (filter (at_point point) faults)
    → bit_or (bit_or so (only_kind (get_or faults i d).kind)) (kinds_of (filter (at_point point) (drop (i + 1) faults)))
    ≡ kinds_of (filter (at_point point) faults)
kinds_more so faults point i d within is left = kinds_next so faults point i d true within is left

pub kinds_same : (so : ℕ) (faults : List Fault) (point i : ℕ) (d : Fault) → i < length faults → ((get_or faults i d).item == point) ≡ false
    → bit_or so (kinds_of (filter (at_point point) (drop i faults))) ≡ kinds_of (filter (at_point point) faults)
    → bit_or so (kinds_of (filter (at_point point) (drop (i + 1) faults))) ≡ kinds_of (filter (at_point point) faults)
kinds_same so faults point i d within is left = kinds_next so faults point i d false within is left

pub kinds_all : (so : ℕ) (faults : List Fault) (point i : ℕ) → length faults ≤ i
    → bit_or so (kinds_of (filter (at_point point) (drop i faults))) ≡ kinds_of (filter (at_point point) faults)
    → so ≡ kinds_of (filter (at_point point) faults)
kinds_all so faults point i past left =
    sym (bit_or-none so) ∙ sym (ap (λ (fs : List Fault). bit_or so (kinds_of (filter (at_point point) fs))) (drop_all i faults past)) ∙ left
