-- The laws that each document is judged: it has a first refusal, or it passes with a script, and not both.
use Rattle.std.specs.Prelude.{◌⊎◌, ◌^◌, ◌<◌, List, Some, length}
use Rattle.cd_tree.specs.declared.document.Document.{Document}
use Rattle.cd_tree.specs.declared.document.Fault.{Fault}
use Rattle.cd_tree.specs.declared.refusal.Refusal.{Refusal}
use Rattle.cd_tree.specs.TreeModel.{IsTree}
use Rattle.cd_check.specs.Checking.{FirstRefusal, Passes}

-- a document is refused for this
abbrev pub IsRefused : Document → Refusal → Type 0
IsRefused document refusal = FirstRefusal document (Some refusal)

-- each document, whose strikes are no more than a script may have, is refused, or it passes with a script
abbrev pub DocumentIsJudged : Type 0
DocumentIsJudged =
    (document : Document) → IsTree document.tree → length document.faults < 2 ^ 32
    → ((refusal : Refusal) × IsRefused document refusal) ⊎ ((script : List Fault) × Passes document script)

-- no document that passes is refused
abbrev pub PassingIsNotRefused : Type 0
PassingIsNotRefused =
    (document : Document) → IsTree document.tree → (script : List Fault) → Passes document script
    → (refusal : Refusal) → IsRefused document refusal → ⊥
