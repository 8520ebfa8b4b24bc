-- A script has one first refusal: each fault has one answer, since one domain has its path.
use Rattle.std.proofs.Common.{◌≡◌, ◌⊎◌, inl, inr, ℕ, Bool, true, false, nat_lt, if◌then◌else◌, List, [], ◌∷◌, Option, None, Some, refl, ap, sym, ◌∙◌}
use Rattle.std.proofs.lemmas.Bool.{lt-ltb, le-ltb}
use Rattle.cd_tree.specs.declared.domain.NodeId.{NodeId}
use Rattle.cd_tree.specs.declared.domain.Domain.{Domain}
use Rattle.cd_tree.specs.declared.document.RawFault.{RawFault}
use Rattle.cd_tree.specs.declared.document.Fault.{Fault}
use Rattle.cd_tree.specs.declared.refusal.Refusal.{Refusal}
use Rattle.cd_tree.specs.declared.refusal.Refusal.TheVariants.{UnknownPath, NoSuchItem, OutsideReach, Undetected}
use Rattle.cd_tree.specs.KindSets.{has_kind}
use Rattle.cd_tree.specs.Laws.{PathsDiffer}
use Rattle.cd_tree.specs.TreeModel.{TreeModel, IsTree}
use Rattle.cd_tree.specs.Paths.{IsNoPath}
use Rattle.cd_tree.specs.Refusals.{numbered}
use Rattle.cd_tree.specs.Scripts.{declared_for}
use Rattle.cd_tree.proofs.RefusalLemmas.{HasOne, first_is_one}
use Rattle.cd_tree.proofs.View.{domain_here}
use Rattle.cd_script.specs.Acceptance.{HasPath, last_point, reaches, FaultOf, FirstFault, IsFoundAs, AreFoundAs}

-- the answer for a fault whose domain is known, by three tests
abbrev by_tests : ℕ → Bool → Bool → Bool → Option Refusal
by_tests at behind inside declared =
    if behind then Some (NoSuchItem at) else if inside then if declared then None else Some (Undetected at) else Some (OutsideReach at)

abbrev answer_at : List Domain → ℕ → RawFault → NodeId → Option Refusal
answer_at domains at raw id =
    by_tests at (nat_lt (last_point domains id) raw.item) (reaches domains id raw.place) (has_kind (declared_for domains id) raw.kind)

-- the answer is that no domain has the path, or that of a domain that has it
abbrev Comes : List Domain → ℕ → RawFault → Option Refusal → Type 0
Comes domains at raw answer =
    (IsNoPath domains raw.path × (answer ≡ Some (UnknownPath at)))
    ⊎ ((id : NodeId) × HasPath domains raw.path id × (answer_at domains at raw id ≡ answer))

all_pass : (at : ℕ) (behind inside declared : Bool) → behind ≡ false → inside ≡ true → declared ≡ true → by_tests at behind inside declared ≡ None
all_pass at behind inside declared p q r = rw (p, q, r)

too_late : (at : ℕ) (behind inside declared : Bool) → behind ≡ true → by_tests at behind inside declared ≡ Some (NoSuchItem at)
too_late at behind inside declared p = rw p

out_of_reach : (at : ℕ) (behind inside declared : Bool) → behind ≡ false → inside ≡ false → by_tests at behind inside declared ≡ Some (OutsideReach at)
out_of_reach at behind inside declared p q = rw (p, q)

not_declared : (at : ℕ) (behind inside declared : Bool) → behind ≡ false → inside ≡ true → declared ≡ false
    → by_tests at behind inside declared ≡ Some (Undetected at)
not_declared at behind inside declared p q r = rw (p, q, r)

comes : (domains : List Domain) (at : ℕ) (raw : RawFault) (answer : Option Refusal) → FaultOf domains (at, raw) answer → Comes domains at raw answer
comes domains at raw None (id, path, has) =
    inr (
      id,
      path,
      all_pass at (nat_lt (last_point domains id) raw.item) (reaches domains id raw.place) (has_kind (declared_for domains id) raw.kind)
          (le-ltb (last_point domains id) raw.item has.0.0) has.0.1 has.1,
    )
comes domains at raw (Some (UnknownPath n)) (same, none) = inl (none, ap (λ (k : ℕ). Some (UnknownPath k)) same)
comes domains at raw (Some (NoSuchItem n)) (same, (id, path, behind)) =
    inr (
      id,
      path,
      too_late at (nat_lt (last_point domains id) raw.item) (reaches domains id raw.place) (has_kind (declared_for domains id) raw.kind)
          (lt-ltb (last_point domains id) raw.item behind) ∙ ap (λ (k : ℕ). Some (NoSuchItem k)) (sym same),
    )
comes domains at raw (Some (OutsideReach n)) (same, (id, path, point, outside)) =
    inr (
      id,
      path,
      out_of_reach at (nat_lt (last_point domains id) raw.item) (reaches domains id raw.place) (has_kind (declared_for domains id) raw.kind)
          (le-ltb (last_point domains id) raw.item point) outside ∙ ap (λ (k : ℕ). Some (OutsideReach k)) (sym same),
    )
comes domains at raw (Some (Undetected n)) (same, (id, path, place, unknown)) =
    inr (
      id,
      path,
      not_declared at (nat_lt (last_point domains id) raw.item) (reaches domains id raw.place) (has_kind (declared_for domains id) raw.kind)
          (le-ltb (last_point domains id) raw.item place.0) place.1 unknown ∙ ap (λ (k : ℕ). Some (Undetected k)) (sym same),
    )
comes domains at raw (Some _) never = absurd never

-- a fault as accepted in a domain
abbrev found_in : RawFault → NodeId → Fault
found_in raw id = record { node = id; begin = raw.begin; item = raw.item; kind = raw.kind; place = raw.place; mask = raw.mask }

same_domain : PathsDiffer → (tree : TreeModel) → IsTree tree → (path : List ℕ) (id other : NodeId)
    → HasPath tree.domains path id → HasPath tree.domains path other → id ≡ other
same_domain differ tree is path id other p q =
    let one = domain_here tree.domains id.0 p.0 in
    let two = domain_here tree.domains other.0 q.0 in
    differ tree is id other one.0 two.0 one.1 two.1 (p.1 ∙ sym q.1)

agree : PathsDiffer → (tree : TreeModel) → IsTree tree → (at : ℕ) (raw : RawFault) (one other : Option Refusal)
    → Comes tree.domains at raw one → Comes tree.domains at raw other → one ≡ other
agree differ tree is at raw one other (inl p) (inl q) = p.1 ∙ sym q.1
agree differ tree is at raw one other (inl p) (inr q) = absurd (p.0 q.0 q.1.0 q.1.1)
agree differ tree is at raw one other (inr p) (inl q) = absurd (q.0 p.0 p.1.0 p.1.1)
agree differ tree is at raw one other (inr p) (inr q) =
    sym p.2 ∙ ap (answer_at tree.domains at raw) (same_domain differ tree is raw.path p.0 q.0 p.1 q.1) ∙ q.2

one_answer : PathsDiffer → (tree : TreeModel) → IsTree tree → (fault : ℕ × RawFault) → HasOne (FaultOf tree.domains fault)
one_answer differ tree is (at, raw) one other p q =
    agree differ tree is at raw one other (comes tree.domains at raw one p) (comes tree.domains at raw other q)

-- two first refusals of a script, or a refusal and none, are the same
pub first_fault_is_one : PathsDiffer → (tree : TreeModel) → IsTree tree → (faults : List RawFault) → HasOne (FirstFault tree.domains faults)
first_fault_is_one differ tree is faults = first_is_one (FaultOf tree.domains) (one_answer differ tree is) (numbered 1 faults)

same_fault : PathsDiffer → (tree : TreeModel) → IsTree tree → (raw : RawFault) (one other : Fault)
    → IsFoundAs tree.domains raw one → IsFoundAs tree.domains raw other → one ≡ other
same_fault differ tree is raw one other p q =
    p.1 ∙ ap (found_in raw) (same_domain differ tree is raw.path one.node other.node p.0 q.0) ∙ sym q.1

-- two scripts that were found as the same faults are the same
pub script_is_one : PathsDiffer → (tree : TreeModel) → IsTree tree → (raws : List RawFault) (one other : List Fault)
    → AreFoundAs tree.domains raws one → AreFoundAs tree.domains raws other → one ≡ other
script_is_one differ tree is [] [] [] p q = refl
script_is_one differ tree is [] [] (fault ∷ faults) p q = absurd q
script_is_one differ tree is [] (fault ∷ faults) other p q = absurd p
script_is_one differ tree is (raw ∷ raws) [] other p q = absurd p
script_is_one differ tree is (raw ∷ raws) (fault ∷ faults) [] p q = absurd q
script_is_one differ tree is (raw ∷ raws) (fault ∷ faults) (last ∷ others) p q =
    let head : fault ≡ last = same_fault differ tree is raw fault last p.0 q.0 in
    let rest : faults ≡ others = script_is_one differ tree is raws faults others p.1 q.1 in
    cc
