-- A script has an answer: a search for the path of each fault, and then three tests.
use Rattle.std.proofs.Common.{◌≡◌, ◌⊎◌, ℕ, zero, suc, ◌^◌, ◌<◌, ◌≤◌, Bool, true, false, nat_le, List, [], ◌∷◌, length, None, Some, All, refl, ap, inl, inr, arith, subst, sym, ◌∙◌}
use Rattle.std.proofs.lemmas.Bool.{true≢false}
use Rattle.std.proofs.lemmas.Bool.Decides.{nat_tests}
use Rattle.std.proofs.lemmas.List.Elements.{All-nil, All-cons}
use Rattle.std.proofs.lemmas.Slice.Eq.{bytes_eq-Decides}
use Rattle.std.specs.Str.{bytes_eq}
use Rattle.cd_tree.specs.declared.domain.NodeId.{NodeId}
use Rattle.cd_tree.specs.declared.domain.Domain.{Domain}
use Rattle.cd_tree.specs.declared.document.RawFault.{RawFault}
use Rattle.cd_tree.specs.declared.document.Fault.{Fault}
use Rattle.cd_tree.specs.declared.refusal.Refusal.TheVariants.{UnknownPath, NoSuchItem, OutsideReach, Undetected}
use Rattle.cd_tree.specs.KindSets.{has_kind}
use Rattle.cd_tree.specs.Laws.{DetectableByPaths}
use Rattle.cd_tree.specs.TreeModel.{TreeModel, IsTree}
use Rattle.cd_tree.specs.Paths.{path_text_of}
use Rattle.cd_tree.specs.Refusals.{FirstOf, numbered}
use Rattle.cd_tree.specs.Scripts.{CanStrike, IsAccepted, declared_for}
use Rattle.cd_tree.proofs.RefusalLemmas.{HasAnswer, first_there}
use Rattle.cd_script.specs.Acceptance.{HasPath, last_point, reaches, FaultOf, FirstFault, IsFoundAs, AreFoundAs}
use Rattle.cd_script.specs.There.{FirstFaultIsThere}
use Rattle.cd_script.proofs.Striking.{IsDeclared, found_strikes, found_declared}

-- ---- the domain of a path

-- one of the first n domains has the path, or none of them
abbrev Sought : List Domain → List ℕ → ℕ → Type 0
Sought domains path n =
    ((id : NodeId) × (id.0 < n) × (path_text_of domains id ≡ path))
    ⊎ ((id : NodeId) → id.0 < n → path_text_of domains id ≡ path → ⊥)

abbrev numbered_by : ℕ → NodeId
numbered_by n = record { 0 = n }

last_or_before : (id : NodeId) (n : ℕ) → id.0 < suc n → (id.0 ≡ n) ⊎ (id.0 < n)
last_or_before id n below = grind (arith, below)

none_more : (domains : List Domain) (path : List ℕ) (n : ℕ) → (path_text_of domains (numbered_by n) ≡ path → ⊥)
    → ((id : NodeId) → id.0 < n → path_text_of domains id ≡ path → ⊥)
    → (id : NodeId) → id.0 < suc n → path_text_of domains id ≡ path → ⊥
none_more domains path n last before id below same =
    elim (last_or_before id n below) as (λ _. ⊥) [
      | inl is ↦ last (subst (λ (k : ℕ). path_text_of domains (numbered_by k) ≡ path) is same)
      | inr less ↦ before id less same
    ]

search_more : (domains : List Domain) (path : List ℕ) (n : ℕ) (b : Bool) → bytes_eq (path_text_of domains (numbered_by n)) path ≡ b
    → Sought domains path n → Sought domains path (suc n)
search_more domains path n b test (inl found) = inl (found.0, omega (arith, found.1), found.2)
search_more domains path n true test (inr none) =
    inl (numbered_by n, omega arith, (bytes_eq-Decides (path_text_of domains (numbered_by n)) path).0 test)
search_more domains path n false test (inr none) =
    inr (none_more domains path n (λ same. true≢false (sym ((bytes_eq-Decides (path_text_of domains (numbered_by n)) path).1 same) ∙ test)) none)

sought : (domains : List Domain) (path : List ℕ) (n : ℕ) → Sought domains path n
sought domains path zero = inr (λ id below same. absurd (omega (arith, below)))
sought domains path (suc n) =
    search_more domains path n (bytes_eq (path_text_of domains (numbered_by n)) path) refl (sought domains path n)

-- ---- one fault

later : (a b : ℕ) → nat_le a b ≡ false → b < a
later a b e = grind (e, arith, nat_tests)

no_later : (a b : ℕ) → nat_le a b ≡ true → a ≤ b
no_later a b e = grind (e, arith, nat_tests)

-- the answer for a fault whose domain is known, by three tests
by_tests : (domains : List Domain) (at : ℕ) (raw : RawFault) (id : NodeId) → HasPath domains raw.path id → (point place kind : Bool)
    → nat_le raw.item (last_point domains id) ≡ point → reaches domains id raw.place ≡ place
    → has_kind (declared_for domains id) raw.kind ≡ kind → HasAnswer (FaultOf domains (at, raw))
by_tests domains at raw id path false place kind p q r =
    (Some (NoSuchItem at), (refl, (id, path, later raw.item (last_point domains id) p)))
by_tests domains at raw id path true false kind p q r =
    (Some (OutsideReach at), (refl, (id, path, no_later raw.item (last_point domains id) p, q)))
by_tests domains at raw id path true true false p q r =
    (Some (Undetected at), (refl, (id, path, (no_later raw.item (last_point domains id) p, q), r)))
by_tests domains at raw id path true true true p q r = (None, (id, path, ((no_later raw.item (last_point domains id) p, q), r)))

fault_there : (domains : List Domain) (fault : ℕ × RawFault) → HasAnswer (FaultOf domains fault)
fault_there domains (at, raw) = go (sought domains raw.path (length domains))
  where
    go : Sought domains raw.path (length domains) → HasAnswer (FaultOf domains (at, raw))
    go (inl (id, below, same)) =
        by_tests domains at raw id (below, same) (nat_le raw.item (last_point domains id)) (reaches domains id raw.place)
        (has_kind (declared_for domains id) raw.kind) refl refl refl
    go (inr none) = (Some (UnknownPath at), (refl, none))

-- ---- all faults

-- each list of faults has a first refusal, or none
pub first_fault_there : FirstFaultIsThere
first_fault_there domains faults = first_there (FaultOf domains) (fault_there domains) (numbered 1 faults)

-- a script that is found as these faults, of which each entry can strike and is declared
pub record IsFound (tree : TreeModel) (raws : List RawFault) (script : List Fault) : Type 0 where
  pub found : AreFoundAs tree.domains raws script
  pub strikes : All (CanStrike tree) script
  pub declared : All (IsDeclared tree.domains) script

one_found : (tree : TreeModel) (at : ℕ) (raw : RawFault) (raws : List RawFault) (script : List Fault) → FaultOf tree.domains (at, raw) None
    → IsFound tree raws script → (whole : List Fault) × IsFound tree (raw ∷ raws) whole
one_found tree at raw raws script (id, path, has) rest =
    let fault : Fault = record { node = id; begin = raw.begin; item = raw.item; kind = raw.kind; place = raw.place; mask = raw.mask } in
    let found : IsFoundAs tree.domains raw fault = (path, refl) in (
      fault ∷ script,
      record {
        found = (found, rest.found);
        strikes = All-cons (CanStrike tree) fault script (found_strikes tree raw fault found has) rest.strikes;
        declared = All-cons (IsDeclared tree.domains) fault script (found_declared tree.domains raw fault found has) rest.declared;
      },
    )

all_found : (tree : TreeModel) (at : ℕ) (raws : List RawFault) → FirstOf (FaultOf tree.domains) (numbered at raws) None
    → (script : List Fault) × IsFound tree raws script
all_found tree at [] none = (
  [],
  record { found = tt; strikes = All-nil (CanStrike tree); declared = All-nil (IsDeclared tree.domains) },
)
all_found tree at (raw ∷ raws) (here, rest) =
    let behind = all_found tree (suc at) raws rest in one_found tree at raw raws behind.0 here behind.1

-- a script has as many entries as the faults that it is found as
found_length : (domains : List Domain) (raws : List RawFault) (script : List Fault) → AreFoundAs domains raws script → length script ≡ length raws
found_length domains [] [] are = refl
found_length domains [] (fault ∷ script) are = absurd are
found_length domains (raw ∷ raws) [] are = absurd are
found_length domains (raw ∷ raws) (fault ∷ script) (one, rest) = ap (λ (n : ℕ). suc n) (found_length domains raws script rest)

-- where none is refused, they are found as a script that is accepted
pub script_there : DetectableByPaths → (tree : TreeModel) → IsTree tree → (faults : List RawFault) → length faults < 2 ^ 32
    → FirstFault tree.domains faults None
    → (script : List Fault) × AreFoundAs tree.domains faults script × IsAccepted tree script
script_there detectable tree is faults few none =
    let all = all_found tree 1 faults none in (
      all.0,
      all.1.found,
      record { few = subst (λ (n : ℕ). n < 2 ^ 32) (sym (found_length tree.domains faults all.0 all.1.found)) few; strikes = all.1.strikes; found = (detectable tree all.0 is).0 (λ k d below within. all.1.declared k d below) },
    )
