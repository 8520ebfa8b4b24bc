-- Each document is judged, since each of its checks has an answer.
use Rattle.std.proofs.Common.{◌≡◌, ◌⊎◌, ◌^◌, ◌<◌, length, List, None, Some, inl, inr}
use Rattle.cd_tree.specs.declared.document.Document.{Document}
use Rattle.cd_tree.specs.declared.document.Fault.{Fault}
use Rattle.cd_tree.specs.declared.refusal.Refusal.{Refusal}
use Rattle.cd_tree.specs.TreeModel.{IsTree}
use Rattle.cd_tree.proofs.RefusalLemmas.{HasAnswer, first_there}
use Rattle.cd_foot.specs.Bounded.{FirstOverlapIsThere, NoOverlapIsDisjoint}
use Rattle.cd_cover.specs.There.{FirstFlawIsThere}
use Rattle.cd_script.specs.There.{FirstFaultIsThere, ScriptIsThere}
use Rattle.cd_check.specs.Checking.{Question, overlap, flaw, fault, Answers, static_checks, FirstRefusal, Passes}
use Rattle.cd_check.specs.Laws.{FirstRefusalIsOne}
use Rattle.cd_check.specs.There.{IsRefused, DocumentIsJudged}

answer_there : FirstOverlapIsThere → FirstFlawIsThere → FirstFaultIsThere → (document : Document) (question : Question)
    → HasAnswer (Answers document question)
answer_there first_overlap first_flaw first_fault document overlap = first_overlap document.tree.domains
answer_there first_overlap first_flaw first_fault document flaw = first_flaw document.tree.domains
answer_there first_overlap first_flaw first_fault document fault = first_fault document.tree.domains document.faults

first_refusal_there : FirstOverlapIsThere → FirstFlawIsThere → FirstFaultIsThere → (document : Document) → HasAnswer (FirstRefusal document)
first_refusal_there first_overlap first_flaw first_fault document =
    first_there (Answers document) (answer_there first_overlap first_flaw first_fault document) static_checks

-- a document without a first refusal passes
passes_there : NoOverlapIsDisjoint → ScriptIsThere → (document : Document) → IsTree document.tree
    → length document.faults < 2 ^ 32 → FirstRefusal document None
    → (script : List Fault) × Passes document script
passes_there disjoint script document is few none =
    let accepted = script document.tree is document.faults few none.1.1.0 in (
      accepted.0,
      record { checked = none; found = accepted.1; disjoint = disjoint document.tree is none.0; accepted = accepted.2 },
    )

pub document_judged : FirstOverlapIsThere → NoOverlapIsDisjoint → FirstFlawIsThere → FirstFaultIsThere → ScriptIsThere → DocumentIsJudged
document_judged first_overlap disjoint first_flaw first_fault script document is few =
    go (first_refusal_there first_overlap first_flaw first_fault document)
  where
    go : HasAnswer (FirstRefusal document) → ((refusal : Refusal) × IsRefused document refusal) ⊎ ((faults : List Fault) × Passes document faults)
    go (None, none) = inr (passes_there disjoint script document is few none)
    go (Some refusal, says) = inl (refusal, says)

none_is_some : (refusal : Refusal) → None ≡ Some refusal → ⊥
none_is_some refusal same = cc

pub passing_not_refused : FirstRefusalIsOne → (document : Document) → IsTree document.tree → (script : List Fault) → Passes document script
    → (refusal : Refusal) → IsRefused document refusal → ⊥
passing_not_refused one document is script passes refusal says =
    none_is_some refusal (one static_checks document is None (Some refusal) passes.checked says)
