-- A document has one first refusal, since each of its checks has one.
use Rattle.std.proofs.Common.{◌≡◌, List}
use Rattle.cd_tree.specs.declared.document.Document.{Document}
use Rattle.cd_tree.specs.declared.document.Fault.{Fault}
use Rattle.cd_tree.specs.TreeModel.{IsTree}
use Rattle.cd_tree.proofs.RefusalLemmas.{HasOne, first_is_one}
use Rattle.cd_foot.specs.Laws.{FirstOverlapIsOne}
use Rattle.cd_cover.specs.Laws.{FirstFlawIsOne}
use Rattle.cd_script.specs.Laws.{FirstFaultIsOne}
use Rattle.cd_script.specs.Laws.{ScriptIsOne as AcceptedIsOne}
use Rattle.cd_check.specs.Checking.{Question, overlap, flaw, fault, Answers, FirstRefusalOf, Passes}

answer_is_one : FirstOverlapIsOne → FirstFlawIsOne → FirstFaultIsOne → (document : Document) → IsTree document.tree → (question : Question)
    → HasOne (Answers document question)
answer_is_one one_overlap one_flaw one_fault document is overlap = one_overlap document.tree.domains
answer_is_one one_overlap one_flaw one_fault document is flaw = one_flaw document.tree.domains
answer_is_one one_overlap one_flaw one_fault document is fault = one_fault document.tree is document.faults

-- two first refusals of a document, by whichever questions, are the same
pub first_refusal_is_one : FirstOverlapIsOne → FirstFlawIsOne → FirstFaultIsOne → (questions : List Question) (document : Document)
    → IsTree document.tree → HasOne (FirstRefusalOf questions document)
first_refusal_is_one one_overlap one_flaw one_fault questions document is =
    first_is_one (Answers document) (answer_is_one one_overlap one_flaw one_fault document is) questions

-- two scripts with which a document passes are the same
pub passing_script_is_one : AcceptedIsOne → (document : Document) → IsTree document.tree → (one other : List Fault)
    → Passes document one → Passes document other → one ≡ other
passing_script_is_one same document is one other p q = same document.tree is document.faults one other p.found q.found
