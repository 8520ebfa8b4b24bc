-- What comes of a command: a line for each deed and each input; and the status and the text of each outcome.
use Rattle.std.specs.Prelude.{◌≡◌, ◌⊎◌, ℕ, ◌<◌, ◌≤◌, Bool, List, length, Option, None, Some, Ok, Err}
use Rattle.cd_base.specs.Ends.{SourceModel, ReadAll}
use Rattle.cd_base.specs.declared.transfer.ReadStop.TheVariants as stop
use Rattle.cd_tree.specs.declared.document.Document.{Document}
use Rattle.cd_tree.specs.declared.event.Cause.{Cause}
use Rattle.cd_tree.specs.declared.event.Event.{Event}
use Rattle.cd_tree.specs.declared.refusal.Refusal.{Refusal}
use Rattle.cd_check.specs.Checking.{FirstRefusalOf, Passes}
use Rattle.cd_parse.specs.Parsing.{parse}
use Rattle.cd_reading.specs.Through.{cause_in}
use Rattle.cd_report.specs.Texts.{refusal_line, usage_line, fault_line}
use Rattle.cd_app.specs.declared.status.Status.{Status}
use Rattle.cd_app.specs.declared.status.Status.TheVariants.{Done, Exhausted, Usage, Refused, ReadFault}
use Rattle.cd_app.specs.Running.{ran_text}
use Rattle.cd_app.specs.Deeds.{Intake, Accepted, Deed, makes, says, runs}

-- ---- inputs

-- an input, as far as a limit lets it be taken: all of its bytes; or that there are more; or that it could not be read
pub data Input : Type 0 where
  whole : List ℕ → Input
  too_much : Input
  unread : Input

-- a source gave this input
abbrev pub Gave : SourceModel → SourceModel → ℕ → Input → Type 0
Gave old new limit (whole bytes) = ReadAll old new limit (Ok bytes)
Gave old new limit too_much = ReadAll old new limit (Err stop.TooLong)
Gave old new limit unread = ReadAll old new limit (Err stop.Failed)

-- these bytes are this input
abbrev pub AreInput : List ℕ → ℕ → Input → Type 0
AreInput bytes limit (whole taken) = (taken ≡ bytes) × (length bytes ≤ limit)
AreInput bytes limit too_much = limit < length bytes
AreInput bytes limit unread = ⊥

-- bytes are refused for this: they are no document, or this is the first refusal of the document that they are
abbrev pub RefusesBytes : Intake → List ℕ → Option Document → Refusal → Type 0
RefusesBytes intake bytes None refusal = parse (intake.document_in bytes) ≡ Err refusal
RefusesBytes intake bytes (Some document) refusal =
    (parse (intake.document_in bytes) ≡ Ok document) × FirstRefusalOf intake.questions document (Some refusal)

-- bytes are accepted: they are a document, no question refuses it, and it passes with this script
pub record AcceptsBytes (intake : Intake) (input : Accepted) : Type 0 where
  pub read : parse (intake.document_in input.bytes) ≡ Ok input.document
  pub checked : FirstRefusalOf intake.questions input.document None
  pub passes : Passes input.document input.script

-- ---- outcomes

-- what a call comes to where memory suffices: the words give no command; a text that needs no input; the input was not
-- read; it is refused, and its document where it is one; something is said of it; it ran
pub data Outcome : Type 0 where
  no_command : Outcome
  made : List ℕ → Outcome
  not_read : Outcome
  refused : Option Document → Refusal → Outcome
  said : List ℕ → Outcome
  ran : Bool → Accepted → Outcome

-- what comes of bytes that were all taken: they are refused, or they are accepted and come to what `next` says
abbrev pub Judged : Intake → List ℕ → (Accepted → Outcome) → Outcome → Type 0
Judged intake bytes next outcome =
    ((document : Option Document) × (refusal : Refusal) × RefusesBytes intake bytes document refusal × (outcome ≡ refused document refusal))
    ⊎ ((input : Accepted) × (input.bytes ≡ bytes) × AcceptsBytes intake input × (outcome ≡ next input))

-- what comes of an input
abbrev pub ComesOfInput : Intake → (Accepted → Outcome) → Input → Outcome → Type 0
ComesOfInput intake next (whole bytes) outcome = Judged intake bytes next outcome
ComesOfInput intake next too_much outcome = outcome ≡ refused None intake.beyond
ComesOfInput intake next unread outcome = outcome ≡ not_read

-- what comes of what the words ask for
abbrev pub ComesOf : (ℕ → Input → Type 0) → Option Deed → Outcome → Type 0
ComesOf Gives None outcome = outcome ≡ no_command
ComesOf Gives (Some (makes text)) outcome = outcome ≡ made text
ComesOf Gives (Some (says intake text_of)) outcome =
    (input : Input) × Gives intake.limit input × ComesOfInput intake (λ accepted. said (text_of accepted)) input outcome
ComesOf Gives (Some (runs intake with_record)) outcome =
    (input : Input) × Gives intake.limit input × ComesOfInput intake (λ accepted. ran with_record accepted) input outcome

-- ---- their statuses and texts

abbrev pub status_by : Option Cause → Status
status_by None = Done
status_by (Some cause) = Exhausted cause

abbrev pub status_of : Outcome → Status
status_of no_command = Usage
status_of (made text) = Done
status_of not_read = ReadFault
status_of (refused document refusal) = Refused refusal
status_of (said text) = Done
status_of (ran with_record input) = status_by (cause_in input.document.tree input.script)

-- the text of an outcome; that of a run is written from the events that are on the machine's record
abbrev pub text_of : List Event → Outcome → List ℕ
text_of events no_command = usage_line
text_of events (made text) = text
text_of events not_read = fault_line
text_of events (refused document refusal) = refusal_line document refusal
text_of events (said text) = text
text_of events (ran with_record input) = ran_text with_record input.document input.script events
