-- The faults of a script one after another: what has been accepted so far, and what the rest decides.
use Rattle.std.proofs.Common.{◌≡◌, ℕ, suc, ◌+◌, ◌^◌, ◌<◌, ◌≤◌, List, [], ◌∷◌, ◌++◌, length, get_or, take, drop, Option, None, Some, Ok, All, refl, ap, sym, ◌∙◌, subst, arith, add-one, inr}
use Rattle.std.proofs.lemmas.List.{drop_more, take_more, drop_all, take_all, length-append}
use Rattle.std.proofs.lemmas.List.Elements.{All-nil, All-cons, All-append}
use Rattle.cd_tree.specs.declared.domain.Domain.{Domain}
use Rattle.cd_tree.specs.declared.document.RawFault.{RawFault}
use Rattle.cd_tree.specs.declared.document.Fault.{Fault}
use Rattle.cd_tree.specs.declared.refusal.Refusal.{Refusal}
use Rattle.cd_tree.specs.Laws.{DetectableByPaths}
use Rattle.cd_tree.specs.TreeModel.{TreeModel, IsTree}
use Rattle.cd_tree.specs.Refusals.{FirstOf, numbered}
use Rattle.cd_tree.specs.Scripts.{CanStrike}
use Rattle.cd_script.specs.Acceptance.{FaultOf, FirstFault, IsFoundAs, AreFoundAs, FaultAnswers, AcceptAnswers}
use Rattle.cd_script.proofs.Striking.{IsDeclared, found_strikes, found_declared}

-- what the faults from here on decide
abbrev pub Decides : TreeModel → ℕ → List RawFault → Option Refusal → Type 0
Decides tree at rest answer = FirstOf (FaultOf tree.domains) (numbered at rest) answer

-- n faults have been accepted, and the answer for the rest is the answer for all
pub record AreAccepted (tree : TreeModel) (all : List RawFault) (n : ℕ) (script : List Fault) : Type 0 where
  pub within : n ≤ length all
  pub size : length script ≡ n
  pub found : AreFoundAs tree.domains (take n all) script
  pub strikes : All (CanStrike tree) script
  pub declared : All (IsDeclared tree.domains) script
  pub left : (answer : Option Refusal) → Decides tree (suc n) (drop n all) answer → FirstFault tree.domains all answer

one_more_found : (domains : List Domain) (raws : List RawFault) (faults : List Fault) (raw : RawFault) (fault : Fault)
    → AreFoundAs domains raws faults → IsFoundAs domains raw fault → AreFoundAs domains (raws ++ raw ∷ []) (faults ++ fault ∷ [])
one_more_found domains [] [] raw fault are is = (is, tt)
one_more_found domains [] (other ∷ faults) raw fault are is = absurd are
one_more_found domains (other ∷ raws) [] raw fault are is = absurd are
one_more_found domains (first ∷ raws) (other ∷ faults) raw fault are is = (are.0, one_more_found domains raws faults raw fault are.1 is)

-- a fault that is not refused leaves the decision to the rest
passed : (tree : TreeModel) (at : ℕ) (raw : RawFault) (rest : List RawFault) → FaultOf tree.domains (at, raw) None
    → (answer : Option Refusal) → Decides tree (suc at) rest answer → Decides tree at (raw ∷ rest) answer
passed tree at raw rest none None decides = (none, decides)
passed tree at raw rest none (Some refusal) decides = inr (none, decides)

-- one fault more has been accepted
pub one_more : (tree : TreeModel) (all : List RawFault) (n at : ℕ) (script : List Fault) (raw : RawFault) (fault : Fault)
    → AreAccepted tree all n script → n < length all → at ≡ n + 1 → raw ≡ get_or all n raw → FaultAnswers tree.domains at raw (Ok fault)
    → AreAccepted tree all (n + 1) (script ++ fault ∷ [])
one_more tree all n at script raw fault are below number is answers =
    let there : drop n all ≡ raw ∷ drop (n + 1) all =
    drop_more all n raw below ∙ ap (λ (r : RawFault). r ∷ drop (n + 1) all) (sym is) in
    let taken : take (n + 1) all ≡ take n all ++ raw ∷ [] =
    take_more all n raw below ∙ ap (λ (r : RawFault). take n all ++ r ∷ []) (sym is) in
    let next : n + 1 ≡ suc n = add-one n in
    let none : FaultOf tree.domains (suc n, raw) None = (fault.node, answers.0.0, answers.1) in
    record {
      within = omega arith;
      size = omega (arith, length-append script (fault ∷ []), are.size);
      found = subst (λ (raws : List RawFault). AreFoundAs tree.domains raws (script ++ fault ∷ [])) (sym taken)
          (one_more_found tree.domains (take n all) script raw fault are.found answers.0);
      strikes = All-append (CanStrike tree) script (fault ∷ []) are.strikes
          (All-cons (CanStrike tree) fault [] (found_strikes tree raw fault answers.0 answers.1) (All-nil (CanStrike tree)));
      declared = All-append (IsDeclared tree.domains) script (fault ∷ []) are.declared
          (All-cons (IsDeclared tree.domains) fault [] (found_declared tree.domains raw fault answers.0 answers.1) (All-nil (IsDeclared tree.domains)));
      left = λ answer decides.
          are.left answer
          (subst (λ (rest : List RawFault). Decides tree (suc n) rest answer) (sym there)
          (passed tree (suc n) raw (drop (n + 1) all) none answer
          (subst (λ (k : ℕ). Decides tree (suc k) (drop (n + 1) all) answer) next decides)));
    }

-- all have been accepted
pub all_accepted : DetectableByPaths → (tree : TreeModel) → IsTree tree → (all : List RawFault) (n : ℕ) (script : List Fault)
    → AreAccepted tree all n script → length all ≤ n → length all < 2 ^ 32 → AcceptAnswers tree all (Ok script)
all_accepted detectable tree is all n script are whole few = (
  are.left None (subst (λ (rest : List RawFault). Decides tree (suc n) rest None) (sym (drop_all n all whole)) refl),
  subst (λ (raws : List RawFault). AreFoundAs tree.domains raws script) (take_all n all whole) are.found,
  record {
    few = omega (arith, are.size, are.within);
    strikes = are.strikes;
    found = (detectable tree script is).0 (λ k d below within. are.declared k d below);
  },
)
