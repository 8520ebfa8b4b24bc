-- What the parts of a call answer.
use Rattle.std.specs.Prelude.{◌≡◌, ◌⊎◌, ℕ, List, Result, Ok, Err}
use Rattle.cd_base.specs.Ends.{SourceModel, TookAtMost}
use Rattle.cd_base.specs.declared.sink.WriteStop.{WriteStop}
use Rattle.cd_base.specs.declared.sink.WriteStop.TheVariants as write
use Rattle.cd_tree.specs.declared.document.Document.{Document}
use Rattle.cd_tree.specs.declared.document.Fault.{Fault}
use Rattle.cd_check.specs.Checking.{Passes}
use Rattle.cd_cover.specs.Plans.{PlanModel}
use Rattle.cd_parse.specs.Parsing.{parse}
use Rattle.cd_parse.specs.WellRead.{WellRead}
use Rattle.cd_app.specs.declared.actions.Action.{Action}
use Rattle.cd_app.specs.declared.actions.Action.TheVariants as action
use Rattle.cd_app.specs.declared.receive.Stop.{Stop}
use Rattle.cd_app.specs.declared.receive.Stop.TheVariants as stop
use Rattle.cd_app.specs.declared.status.Status.{Status}
use Rattle.cd_app.specs.declared.status.Status.TheVariants.{WriteFault, NoMemory}
use Rattle.cd_app.specs.Running.{need_of, check_text, read_text, lift_text}
use Rattle.cd_app.specs.Deeds.{Intake, one_document, Deed, says}
use Rattle.cd_app.specs.Outcomes.{whole, too_much, unread, Gave}
use Rattle.cd_app.specs.Calls.{Standing, by_text, standing}

-- ---- receiving a document

-- bytes that were all taken, and the document that they are
pub record IsRead (intake : Intake) (had left : SourceModel) (document : Document) : Type 0 where
  pub bytes : List ℕ
  pub gave : Gave had left intake.limit (whole bytes)
  pub read : parse (intake.document_in bytes) ≡ Ok document

-- why there is no document: more bytes than the limit, or bytes that are none
abbrev pub IsNone : Intake → SourceModel → SourceModel → Stop → Type 0
IsNone intake had left (stop.Refused refusal) =
    (Gave had left intake.limit too_much × (refusal ≡ intake.beyond))
    ⊎ ((bytes : List ℕ) × Gave had left intake.limit (whole bytes) × (parse (intake.document_in bytes) ≡ Err refusal))
IsNone intake had left stop.ReadFault = Gave had left intake.limit unread
IsNone intake had left stop.NoMemory = TookAtMost had left intake.limit

-- the document that a source gave, or why there is none
abbrev pub Receives : Intake → SourceModel → SourceModel → Result Document Stop → Type 0
Receives intake had left (Ok document) = IsRead intake had left document
Receives intake had left (Err why) = IsNone intake had left why

-- the document that bytes are, or why they are none
abbrev pub ReadsBytes : List ℕ → Result Document Stop → Type 0
ReadsBytes bytes (Ok document) = parse bytes ≡ Ok document
ReadsBytes bytes (Err (stop.Refused refusal)) = parse bytes ≡ Err refusal
ReadsBytes bytes (Err stop.ReadFault) = ⊥
ReadsBytes bytes (Err stop.NoMemory) = Unit {0}

-- ---- what is said of a document

abbrev pub text_for : Action → Document → List Fault → List ℕ
text_for action.Check document script = check_text document
text_for action.Read document script = read_text document script
text_for action.Lift document script = lift_text document

abbrev pub deed_for : Action → Deed
deed_for to = says one_document (λ input. text_for to input.document input.script)

-- the checks pass a document with a script, and its program needs so many blocks
pub record IsSound (document : Document) (need : ℕ) (script : List Fault) : Type 0 where
  pub passes : Passes document script
  pub needs : need ≡ need_of document.tree

-- ---- statuses of writes

-- what becomes of a status where the sink failed
abbrev pub by_standing : Standing → Status → Status
by_standing by_text status = WriteFault
by_standing _ status = status

abbrev pub behind_fault : Status → Status
behind_fault status = by_standing (standing status) status

-- the status of a call that wrote the text of this one
abbrev pub settled : {T : Type 0} → Result T WriteStop → Status → Status
settled (Ok _) status = status
settled (Err write.Failed) status = behind_fault status
settled (Err write.NoMemory) status = NoMemory

-- a document that was read, that the checks pass with a script, and for which a plan was made
pub record IsPassed (document : Document) (plan : PlanModel) (script : List Fault) : Type 0 where
  pub well : WellRead document
  pub planned : plan.tree ≡ document.tree
  pub passes : Passes document script
