-- From the parts of a call to the outcome that it comes to.
use Rattle.std.proofs.Common.{◌≡◌, ◌⊎◌, ℕ, Bool, List, [], sum, Option, None, Some, Result, Ok, Err, refl, ap, sym, subst, ◌∙◌, inl, inr, arith}
use Rattle.std.specs.Prelude.{option_map, option_and_then}
use Rattle.std.specs.Io.KnownBytes.{Consumes}
use Rattle.cd_base.specs.Ends.{SourceModel, SinkModel, TookAtMost}
use Rattle.cd_tree.specs.declared.document.Document.{Document}
use Rattle.cd_tree.specs.declared.document.Fault.{Fault}
use Rattle.cd_tree.specs.declared.refusal.Refusal.{Refusal}
use Rattle.cd_check.specs.Checking.{FirstRefusalOf, Passes}
use Rattle.cd_field.specs.FieldModel.{FieldModel}
use Rattle.cd_command.specs.declared.command.Command.{Command}
use Rattle.cd_command.specs.CommandLine.{command_in}
use Rattle.cd_reading.specs.Through.{begins_in}
use Rattle.cd_pool.specs.Counts.{counted}
use Rattle.cd_app.specs.declared.receive.Stop.{Stop}
use Rattle.cd_app.specs.declared.receive.Stop.TheVariants as stop
use Rattle.cd_app.specs.declared.status.Status.TheVariants.{NoMemory}
use Rattle.cd_app.specs.Running.{HoldsRun, IsCounted}
use Rattle.cd_app.specs.Deeds.{Intake, one_document, Accepted, Deed, makes, says, runs, deed_of, deed_in, intake_of, intake_in}
use Rattle.cd_app.specs.Outcomes.{Input, whole, too_much, unread, Gave, AcceptsBytes, Outcome, no_command, made, not_read, refused, said, ran, ComesOfInput, ComesOf}
use Rattle.cd_app.specs.Calls.{Call, call_of, Comes, NothingRan, Ends, TookWithin, Meets}
use Rattle.cd_app.specs.Parts.{IsRead, IsNone, Receives, ReadsBytes}

-- ---- what the words ask for

-- the deed of a command that was parsed
pub asks_for : (words : List (List ℕ)) (parsed : Option Command) (command : Command) → parsed ≡ command_in words
    → parsed ≡ Some command → deed_in words ≡ Some (deed_of command)
asks_for words parsed command exact is = ap (option_map deed_of) (sym exact ∙ is)

-- the same, where the command is taken apart
pub asks_for_it : (words : List (List ℕ)) (parsed : Option Command) (command given : Command) → parsed ≡ command_in words
    → parsed ≡ Some command → command ≡ given → deed_in words ≡ Some (deed_of given)
asks_for_it words parsed command given exact is same =
    asks_for words parsed command exact is ∙ ap (λ (c : Command). Some (deed_of c)) same

pub asks_for_nothing : (words : List (List ℕ)) (parsed : Option Command) → parsed ≡ command_in words → parsed ≡ None
    → deed_in words ≡ None
asks_for_nothing words parsed exact is = ap (option_map deed_of) (sym exact ∙ is)

-- and the intake of a deed
pub takes_by : (words : List (List ℕ)) (deed : Deed) (intake : Intake) → deed_in words ≡ Some deed → intake_of deed ≡ Some intake
    → intake_in words ≡ Some intake
takes_by words deed intake asked is = ap (option_and_then intake_of) asked ∙ is

-- what comes of a deed comes of the words that ask for it
pub comes_by : (call : Call) (deed : Option Deed) (outcome : Outcome) → deed_in call.words ≡ deed
    → ComesOf (Gave call.source_was call.source_now) deed outcome → Comes call outcome
comes_by call deed outcome asked comes = subst (λ (d : Option Deed). ComesOf (Gave call.source_was call.source_now) d outcome) (sym asked) comes

-- ---- the document that a source gave

-- bytes that were all taken, and what they are read as
pub received : (old new : SourceModel) (bytes : List ℕ) (result : Result Document Stop) → Gave old new one_document.limit (whole bytes)
    → ReadsBytes bytes result → Receives one_document old new result
received old new bytes (Ok document) gave reads = record { bytes = bytes; gave = gave; read = reads }
received old new bytes (Err (stop.Refused refusal)) gave reads = inr (bytes, gave, reads)
received old new bytes (Err stop.ReadFault) gave reads = absurd reads
received old new bytes (Err stop.NoMemory) gave reads = (bytes, gave.0, gave.2)

-- ---- outcomes of an input

-- the deeds that take one document have in common what comes of an input that is not accepted
abbrev TakesOne : Option Deed → Type 0
TakesOne None = ⊥
TakesOne (Some (makes text)) = ⊥
TakesOne (Some (says intake text_of)) = intake ≡ one_document
TakesOne (Some (runs intake with_record)) = intake ≡ one_document

some_intake : (one other : Intake) → Some one ≡ Some other → one ≡ other
some_intake one other e = cc

takes_one : (deed : Option Deed) → option_and_then intake_of deed ≡ Some one_document → TakesOne deed
takes_one None takes = let no : None ≡ Some one_document = takes in cc
takes_one (Some (makes text)) takes = let no : None ≡ Some one_document = takes in cc
takes_one (Some (says intake text_of)) takes = some_intake intake one_document takes
takes_one (Some (runs intake with_record)) takes = some_intake intake one_document takes

-- an outcome that comes of an input, whatever is done with one that is accepted, comes of the call
of_input : (call : Call) (input : Input) (outcome : Outcome) → intake_in call.words ≡ Some one_document
    → Gave call.source_was call.source_now one_document.limit input
    → ((next : Accepted → Outcome) → ComesOfInput one_document next input outcome) → Comes call outcome
of_input call input outcome takes gave anyhow = go (deed_in call.words) (takes_one (deed_in call.words) takes)
  where
    go : (deed : Option Deed) → TakesOne deed → ComesOf (Gave call.source_was call.source_now) deed outcome
    go None never = absurd never
    go (Some (makes text)) never = absurd never
    go (Some (says intake text_of)) same =
        subst (λ (i : Intake). ComesOf (Gave call.source_was call.source_now) (Some (says i text_of)) outcome) (sym same)
        (input, gave, anyhow (λ accepted. said (text_of accepted)))
    go (Some (runs intake with_record)) same =
        subst (λ (i : Intake). ComesOf (Gave call.source_was call.source_now) (Some (runs i with_record)) outcome) (sym same)
        (input, gave, anyhow (λ accepted. ran with_record accepted))

-- there is no document
pub none_refused : (call : Call) (refusal : Refusal) → intake_in call.words ≡ Some one_document → NothingRan call
    → IsNone one_document call.source_was call.source_now (stop.Refused refusal) → Ends call (refused None refusal)
none_refused call refusal takes now (inl long) =
    (of_input call too_much (refused None refusal) takes long.0 (λ next. ap (refused None) long.1), now)
none_refused call refusal takes now (inr (bytes, gave, reads)) =
    (of_input call (whole bytes) (refused None refusal) takes gave (λ next. inl (None, refusal, reads, refl)), now)

-- the source failed
pub fault_ends : (call : Call) → intake_in call.words ≡ Some one_document → NothingRan call
    → IsNone one_document call.source_was call.source_now stop.ReadFault → Ends call not_read
fault_ends call takes now gave = (of_input call unread not_read takes gave (λ next. refl), now)

-- a document is refused
pub document_refused : (call : Call) (document : Document) (refusal : Refusal) → intake_in call.words ≡ Some one_document
    → NothingRan call → IsRead one_document call.source_was call.source_now document
    → FirstRefusalOf one_document.questions document (Some refusal) → Ends call (refused (Some document) refusal)
document_refused call document refusal takes now is first = (
  of_input call (whole is.bytes) (refused (Some document) refusal) takes is.gave (λ next. inl (Some document, refusal, (is.read, first), refl)),
  now,
)

-- ---- outcomes of an accepted document

-- an input that was read, with the script with which its document passes
abbrev pub input_of : {old new : SourceModel} (document : Document) (script : List Fault) → IsRead one_document old new document → Accepted
input_of {old} {new} document script is = record { bytes = is.bytes; document = document; script = script }

accepts : {old new : SourceModel} (document : Document) (script : List Fault) (is : IsRead one_document old new document)
    → Passes document script → AcceptsBytes one_document (input_of document script is)
accepts {old} {new} document script is passes = record { read = is.read; checked = passes.checked; passes = passes }

-- something is said of it
pub said_ends : (call : Call) (text_of : Accepted → List ℕ) (document : Document) (script : List Fault)
    → deed_in call.words ≡ Some (says one_document text_of) → (is : IsRead one_document call.source_was call.source_now document)
    → Passes document script → NothingRan call → Ends call (said (text_of (input_of document script is)))
said_ends call text_of document script asked is passes now = (
  comes_by call (Some (says one_document text_of)) (said (text_of (input_of document script is))) asked
      (whole is.bytes, is.gave, inr (input_of document script is, refl, accepts document script is passes, refl)),
  now,
)

-- it is to run
run_comes : (call : Call) (with_record : Bool) (document : Document) (script : List Fault)
    → deed_in call.words ≡ Some (runs one_document with_record) → (is : IsRead one_document call.source_was call.source_now document)
    → Passes document script → Comes call (ran with_record (input_of document script is))
run_comes call with_record document script asked is passes =
    comes_by call (Some (runs one_document with_record)) (ran with_record (input_of document script is)) asked
    (whole is.bytes, is.gave, inr (input_of document script is, refl, accepts document script is passes, refl))

-- it has run
pub ran_ends : (call : Call) (with_record : Bool) (document : Document) (script : List Fault)
    → deed_in call.words ≡ Some (runs one_document with_record) → (is : IsRead one_document call.source_was call.source_now document)
    → Passes document script → HoldsRun document script call.machine_now
    → IsCounted document script call.engine_was call.engine_now
    → Ends call (ran with_record (input_of document script is))
ran_ends call with_record document script asked is passes holds counts =
    (run_comes call with_record document script asked is passes, (holds, counts))

-- ---- the engine's count

-- a run that was counted from one count to another, where these are the call's
pub counted_in_call : (document : Document) (script : List Fault) (was now one other : ℕ) → one ≡ was → other ≡ now
    → IsCounted document script was now → IsCounted document script one other
counted_in_call document script was now one other first second counts =
    second ∙ counts ∙ ap (λ (n : ℕ). counted n (sum (begins_in document.tree script))) (sym first)

-- the same where it was counted or not
pub counted_or_not : (document : Document) (script : List Fault) (was now one other : ℕ) → one ≡ was → other ≡ now
    → (now ≡ was) ⊎ IsCounted document script was now → (other ≡ one) ⊎ IsCounted document script one other
counted_or_not document script was now one other first second (inl same) = inl (second ∙ same ∙ sym first)
counted_or_not document script was now one other first second (inr counts) =
    inr (counted_in_call document script was now one other first second counts)

-- ---- outcomes without an input

pub usage_ends : (call : Call) → deed_in call.words ≡ None → call.source_now ≡ call.source_was → NothingRan call → Ends call no_command
usage_ends call asked left now = (comes_by call None no_command asked refl, (left, now))

pub made_ends : (call : Call) (text : List ℕ) → deed_in call.words ≡ Some (makes text) → call.source_now ≡ call.source_was
    → NothingRan call → Ends call (made text)
made_ends call text asked left now = (comes_by call (Some (makes text)) (made text) asked refl, (left, now))

-- ---- want of memory

nothing_consumed : (left : Option (List ℕ)) → Consumes left left []
nothing_consumed None = tt
nothing_consumed (Some bytes) = refl

took_nothing : (intake : Option Intake) (m : SourceModel) → TookWithin intake m m
took_nothing None m = refl
took_nothing (Some intake) m = ([], (nothing_consumed m.left, omega arith), omega arith)

-- before anything was read
pub no_memory_at_once : (words : List (List ℕ)) (source : SourceModel) (m : FieldModel) (count : ℕ) (sink : SinkModel)
    → Meets (call_of words source source m m count count) sink sink NoMemory
no_memory_at_once words source m count sink = inl ((took_nothing (intake_in words) source, inl (refl, refl)), refl)

took_within : (call : Call) → intake_in call.words ≡ Some one_document → TookAtMost call.source_was call.source_now one_document.limit
    → TookWithin (intake_in call.words) call.source_was call.source_now
took_within call takes took = subst (λ (i : Option Intake). TookWithin i call.source_was call.source_now) (sym takes) took

-- before the machine and the engine were touched
pub no_memory_yet : (call : Call) (sink : SinkModel) → intake_in call.words ≡ Some one_document → NothingRan call
    → TookAtMost call.source_was call.source_now one_document.limit → Meets call sink sink NoMemory
no_memory_yet call sink takes now took = inl ((took_within call takes took, inl now), refl)

took_of : (old new : SourceModel) (document : Document) → IsRead one_document old new document → TookAtMost old new one_document.limit
took_of old new document is = (is.bytes, is.gave.0, is.gave.2)

pub no_memory_for : (call : Call) (sink : SinkModel) (document : Document) → intake_in call.words ≡ Some one_document
    → NothingRan call → IsRead one_document call.source_was call.source_now document → Meets call sink sink NoMemory
no_memory_for call sink document takes now is = no_memory_yet call sink takes now (took_of call.source_was call.source_now document is)

-- in a run
pub no_memory_in_run : (call : Call) (sink : SinkModel) (with_record : Bool) (document : Document) (script : List Fault)
    → deed_in call.words ≡ Some (runs one_document with_record) → IsRead one_document call.source_was call.source_now document
    → Passes document script
    → (call.engine_now ≡ call.engine_was) ⊎ IsCounted document script call.engine_was call.engine_now → Meets call sink sink NoMemory
no_memory_in_run call sink with_record document script asked is passes counts =
    let takes : intake_in call.words ≡ Some one_document = takes_by call.words (runs one_document with_record) one_document asked refl in
    inl (
      (
        took_within call takes (took_of call.source_was call.source_now document is),
        inr (with_record, input_of document script is, run_comes call with_record document script asked is passes, counts),
      ),
      refl,
    )
