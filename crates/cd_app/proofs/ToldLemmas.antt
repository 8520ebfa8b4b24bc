-- From what a part of the code wrote, and the status that it gave, to what the whole call does.
use Rattle.std.proofs.Common.{◌≡◌, Bool, ℕ, List, Option, None, Some, Result, Err, refl, ap, subst, sym, ◌∙◌}
use Rattle.cd_base.specs.declared.sink.WriteStop.{WriteStop}
use Rattle.cd_base.specs.Ends.{SinkModel, WriteAll}
use Rattle.cd_tree.specs.declared.document.Document.{Document}
use Rattle.cd_tree.specs.declared.document.Fault.{Fault}
use Rattle.cd_tree.specs.declared.event.Cause.{Cause}
use Rattle.cd_tree.specs.declared.refusal.Refusal.{Refusal}
use Rattle.cd_tree.specs.declared.refusal.Refuse.{Refuse}
use Rattle.cd_tree.specs.declared.refusal.Refuse.TheVariants as refuse
use Rattle.cd_check.specs.Checking.{Passes, Checks}
use Rattle.cd_field.specs.FieldModel.{FieldModel}
use Rattle.cd_report.specs.Texts.{refusal_line, usage_line, fault_line}
use Rattle.cd_app.specs.declared.receive.Stop.{Stop}
use Rattle.cd_app.specs.declared.receive.Stop.TheVariants as stop
use Rattle.cd_app.specs.declared.status.Status.{Status}
use Rattle.cd_app.specs.declared.status.Status.TheVariants.{Done, Usage, Refused, ReadFault, NoMemory}
use Rattle.cd_app.specs.Running.{HasRun, HoldsRun, IsCounted, ran_text}
use Rattle.cd_app.specs.Deeds.{one_document, Accepted, makes, says, runs, deed_in, intake_in}
use Rattle.cd_app.specs.Outcomes.{refused, not_read, said, ran, made, no_command, status_by}
use Rattle.cd_app.specs.Calls.{Call, Meets, NothingRan}
use Rattle.cd_app.specs.Parts.{IsRead, IsNone, settled}
use Rattle.cd_app.proofs.CallLemmas.{input_of, none_refused, fault_ends, document_refused, said_ends, ran_ends, usage_ends, made_ends, no_memory_yet}
use Rattle.cd_app.proofs.WriteLemmas.{told}

-- ---- there is no document

pub refused_told : {T : Type 0} (call : Call) (old new : SinkModel) (why : Stop) (refusal : Refusal) (copied : Option Document)
    (status : Status) (wrote : Result T WriteStop) → why ≡ stop.Refused refusal → copied ≡ None
    → status ≡ settled wrote (Refused refusal) → WriteAll old new (refusal_line copied refusal) wrote
    → intake_in call.words ≡ Some one_document → NothingRan call
    → IsNone one_document call.source_was call.source_now why → Meets call old new status
refused_told {T} call old new why refusal copied status wrote is copy said_so wrote_it takes now none =
    told call old new (refused None refusal) wrote (Refused refusal) (refusal_line copied refusal) status said_so refl
    (ap (λ (d : Option Document). refusal_line d refusal) copy)
    (none_refused call refusal takes now (subst (λ (s : Stop). IsNone one_document call.source_was call.source_now s) is none)) wrote_it

pub fault_told : {T : Type 0} (call : Call) (old new : SinkModel) (why : Stop) (status : Status) (wrote : Result T WriteStop)
    → why ≡ stop.ReadFault → status ≡ settled wrote ReadFault → WriteAll old new fault_line wrote
    → intake_in call.words ≡ Some one_document → NothingRan call
    → IsNone one_document call.source_was call.source_now why → Meets call old new status
fault_told {T} call old new why status wrote is said_so wrote_it takes now none =
    told call old new not_read wrote ReadFault fault_line status said_so refl refl
    (fault_ends call takes now (subst (λ (s : Stop). IsNone one_document call.source_was call.source_now s) is none)) wrote_it

pub memory_told : (call : Call) (sink : SinkModel) (why : Stop) → why ≡ stop.NoMemory → intake_in call.words ≡ Some one_document
    → NothingRan call → IsNone one_document call.source_was call.source_now why → Meets call sink sink NoMemory
memory_told call sink why is takes now none =
    no_memory_yet call sink takes now (subst (λ (s : Stop). IsNone one_document call.source_was call.source_now s) is none)

-- ---- a document is refused

pub document_told : {T : Type 0} (call : Call) (old new : SinkModel) (document : Document) (why : Refuse) (refusal : Refusal)
    (copied : Option Document) (status : Status) (wrote : Result T WriteStop) → why ≡ refuse.Refused refusal → copied ≡ Some document
    → status ≡ settled wrote (Refused refusal) → WriteAll old new (refusal_line copied refusal) wrote
    → intake_in call.words ≡ Some one_document → NothingRan call
    → IsRead one_document call.source_was call.source_now document → Checks document (Err why) → Meets call old new status
document_told {T} call old new document why refusal copied status wrote is copy said_so wrote_it takes now read refuses =
    told call old new (refused (Some document) refusal) wrote (Refused refusal) (refusal_line copied refusal) status said_so refl
    (ap (λ (d : Option Document). refusal_line d refusal) copy)
    (document_refused call document refusal takes now read (subst (λ (r : Refuse). Checks document (Err r)) is refuses))
    wrote_it

-- ---- a document is accepted

pub said_told : {T : Type 0} (call : Call) (old new : SinkModel) (text_of : Accepted → List ℕ) (document : Document) (script : List Fault)
    (text : List ℕ) (status : Status) (wrote : Result T WriteStop) → deed_in call.words ≡ Some (says one_document text_of)
    → (read : IsRead one_document call.source_was call.source_now document) → Passes document script
    → NothingRan call → text ≡ text_of (input_of document script read) → status ≡ settled wrote Done
    → WriteAll old new text wrote → Meets call old new status
said_told {T} call old new text_of document script text status wrote asked read passes now spells said_so wrote_it =
    told call old new (said (text_of (input_of document script read))) wrote Done text status said_so refl spells
    (said_ends call text_of document script asked read passes now) wrote_it

-- a run, on a machine that is known as the one after it
pub ran_told : {T : Type 0} (call : Call) (old new : SinkModel) (with_record : Bool) (document : Document) (script : List Fault)
    (m : FieldModel) (begins : List ℕ) (cause : Option Cause) (given status : Status) (wrote : Result T WriteStop)
    → deed_in call.words ≡ Some (runs one_document with_record) → IsRead one_document call.source_was call.source_now document
    → Passes document script → call.machine_now ≡ m → HasRun document script m begins cause
    → IsCounted document script call.engine_was call.engine_now → given ≡ status_by cause
    → status ≡ settled wrote given → WriteAll old new (ran_text with_record document script m.events) wrote → Meets call old new status
ran_told {T} call old new with_record document script m begins cause given status wrote asked read passes now run counts by said_so wrote_it =
    told call old new (ran with_record (input_of document script read)) wrote given (ran_text with_record document script m.events) status said_so
    (by ∙ ap status_by run.ends) (ap (λ (n : FieldModel). ran_text with_record document script n.events) (sym now))
    (ran_ends call with_record document script asked read passes (subst (HoldsRun document script) (sym now) run.holds) counts) wrote_it

-- ---- no input

pub usage_told : {T : Type 0} (call : Call) (old new : SinkModel) (status : Status) (wrote : Result T WriteStop)
    → deed_in call.words ≡ None → call.source_now ≡ call.source_was → NothingRan call
    → status ≡ settled wrote Usage → WriteAll old new usage_line wrote → Meets call old new status
usage_told {T} call old new status wrote asked source machine said_so wrote_it =
    told call old new no_command wrote Usage usage_line status said_so refl refl (usage_ends call asked source machine) wrote_it

pub made_told : {T : Type 0} (call : Call) (old new : SinkModel) (text : List ℕ) (status : Status) (wrote : Result T WriteStop)
    → deed_in call.words ≡ Some (makes text) → call.source_now ≡ call.source_was → NothingRan call
    → status ≡ settled wrote Done → WriteAll old new text wrote → Meets call old new status
made_told {T} call old new text status wrote asked source machine said_so wrote_it =
    told call old new (made text) wrote Done text status said_so refl refl (made_ends call text asked source machine) wrote_it
