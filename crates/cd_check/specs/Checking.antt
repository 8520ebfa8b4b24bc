-- What the static checks of a document answer: its first refusal, or a plan of its program and its script.
use Rattle.std.specs.Prelude.{◌≡◌, List, [], ◌∷◌, Option, None, Some, Result, Ok, Err}
use Rattle.cd_tree.specs.declared.document.Document.{Document}
use Rattle.cd_tree.specs.declared.document.Fault.{Fault}
use Rattle.cd_tree.specs.declared.refusal.Refusal.{Refusal}
use Rattle.cd_tree.specs.declared.refusal.Refuse.{Refuse}
use Rattle.cd_tree.specs.declared.refusal.Refuse.TheVariants.{Refused, NoMemory}
use Rattle.cd_tree.specs.Domains.{root_of}
use Rattle.cd_tree.specs.Meaning.{IsDisjoint}
use Rattle.cd_tree.specs.Refusals.{FirstOf}
use Rattle.cd_tree.specs.Scripts.{IsAccepted}
use Rattle.cd_foot.specs.Overlaps.{FirstOverlap}
use Rattle.cd_cover.specs.Checks.{FirstFlaw}
use Rattle.cd_cover.specs.Plans.{PlanModel}
use Rattle.cd_script.specs.Acceptance.{FirstFault, AreFoundAs}

-- a question that may be asked of a document: whether siblings interfere; what stands in the way of a plan; whether the faults
-- can strike, and be found
pub data Question : Type 0 where
  overlap : Question
  flaw : Question
  fault : Question

-- a question's answer: the first refusal, or none
abbrev pub Answers : Document → Question → Option Refusal → Type 0
Answers document overlap answer = FirstOverlap document.tree.domains answer
Answers document flaw answer = FirstFlaw document.tree.domains answer
Answers document fault answer = FirstFault document.tree.domains document.faults answer

-- the first refusal of questions that are asked of a document in this order
abbrev pub FirstRefusalOf : List Question → Document → Option Refusal → Type 0
FirstRefusalOf questions document answer = FirstOf (Answers document) questions answer

-- the static checks
abbrev pub static_checks : List Question
static_checks = overlap ∷ flaw ∷ fault ∷ []

-- the first refusal of the static checks of a document
abbrev pub FirstRefusal : Document → Option Refusal → Type 0
FirstRefusal document answer = FirstRefusalOf static_checks document answer

-- a document passes the checks, and this is its script
pub record Passes (document : Document) (script : List Fault) : Type 0 where
  pub checked : FirstRefusal document None
  pub found : AreFoundAs document.tree.domains document.faults script
  pub disjoint : IsDisjoint (root_of document.tree.domains)
  pub accepted : IsAccepted document.tree script

-- what the checks answer: a plan of the document's program, and its script; or the first refusal; nothing is said where
-- memory ran out
abbrev pub Checks : Document → Result (PlanModel × List Fault) Refuse → Type 0
Checks document (Ok checked) = (checked.0.tree ≡ document.tree) × Passes document checked.1
Checks document (Err (Refused refusal)) = FirstRefusal document (Some refusal)
Checks document (Err NoMemory) = Unit {0}
