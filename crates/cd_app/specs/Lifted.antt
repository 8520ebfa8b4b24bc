-- A document in version 2 of the language is the same program.
use Rattle.std.specs.Prelude.{◌≡◌, ◌↔◌, Bool, List, Option}
use Rattle.cd_tree.specs.declared.document.Document.{Document}
use Rattle.cd_tree.specs.declared.document.Fault.{Fault}
use Rattle.cd_tree.specs.declared.refusal.Refusal.{Refusal}
use Rattle.cd_tree.specs.Domains.{root_of}
use Rattle.cd_tree.specs.Meaning.{initial, node_meaning}
use Rattle.cd_tree.specs.Record.{reading}
use Rattle.cd_check.specs.Checking.{FirstRefusal, Passes}
use Rattle.cd_print.specs.Canonical.{lifted}
use Rattle.cd_field.specs.FieldModel.{FieldModel}
use Rattle.cd_app.specs.Running.{need_of, HoldsRun, ran_text}

-- it has the same first refusal, or none
abbrev pub LiftedIsRefusedAlike : Type 0
LiftedIsRefusedAlike =
    (document : Document) (answer : Option Refusal) → FirstRefusal (lifted document) answer ↔ FirstRefusal document answer

-- it passes with the same script
abbrev pub LiftedPassesAlike : Type 0
LiftedPassesAlike = (document : Document) (script : List Fault) → Passes (lifted document) script ↔ Passes document script

-- it makes the same words where nothing fails
abbrev pub LiftedMeansTheSame : Type 0
LiftedMeansTheSame =
    (document : Document)
    → node_meaning (root_of (lifted document).tree.domains) (initial (lifted document).regions)
    ≡ node_meaning (root_of document.tree.domains) (initial document.regions)

-- it needs as many blocks
abbrev pub LiftedNeedsTheSame : Type 0
LiftedNeedsTheSame =
    (document : Document) → need_of (lifted document).tree ≡ need_of document.tree

-- it has the same reading under each script
abbrev pub LiftedReadsTheSame : Type 0
LiftedReadsTheSame =
    (document : Document) (script : List Fault) → reading (lifted document).tree script ≡ reading document.tree script

-- a machine on which it has run is one on which the document has run, and the report of the same events is the same
abbrev pub LiftedRunsAlike : Type 0
LiftedRunsAlike =
    (document : Document) (script : List Fault) (m : FieldModel) (with_record : Bool)
    → (HoldsRun (lifted document) script m ↔ HoldsRun document script m)
    × (ran_text with_record (lifted document) script m.events ≡ ran_text with_record document script m.events)
