-- What a call of the program does: its status, what it takes, what it writes and what it leaves.
use Rattle.std.specs.Prelude.{◌≡◌, ◌⊎◌, ℕ, Bool, List, Option, None, Some}
use Rattle.cd_base.specs.Ends.{SourceModel, SinkModel, Rose, TookAtMost, Grew, GrewByFront}
use Rattle.cd_field.specs.FieldModel.{FieldModel}
use Rattle.cd_app.specs.declared.status.Status.{Status}
use Rattle.cd_app.specs.declared.status.Status.TheVariants.{Done, Exhausted, Usage, Refused, ReadFault, WriteFault, NoMemory}
use Rattle.cd_app.specs.Running.{HoldsRun, IsCounted}
use Rattle.cd_app.specs.Deeds.{Intake, Accepted, deed_in, intake_in}
use Rattle.cd_app.specs.Outcomes.{Gave, Outcome, no_command, made, ran, ComesOf, status_of, text_of}

-- a call as it is seen from outside: the command's words, the source before and after, the machine before and after, and the
-- engine's count of begins before and after
pub record Call : Type 0 where
  pub words : List (List ℕ)
  pub source_was : SourceModel
  pub source_now : SourceModel
  pub machine_was : FieldModel
  pub machine_now : FieldModel
  pub engine_was : ℕ
  pub engine_now : ℕ

abbrev pub call_of : List (List ℕ) → SourceModel → SourceModel → FieldModel → FieldModel → ℕ → ℕ → Call
call_of words source_was source_now machine_was machine_now engine_was engine_now = record {
  words = words;
  source_was = source_was;
  source_now = source_now;
  machine_was = machine_was;
  machine_now = machine_now;
  engine_was = engine_was;
  engine_now = engine_now;
}

-- this comes of the call's words and of what the source gave
abbrev pub Comes : Call → Outcome → Type 0
Comes call outcome = ComesOf (Gave call.source_was call.source_now) (deed_in call.words) outcome

-- the machine and the engine's count are as they were
abbrev pub NothingRan : Call → Type 0
NothingRan call = (call.machine_now ≡ call.machine_was) × (call.engine_now ≡ call.engine_was)

-- the engine counted the run of an input
abbrev pub CountsRun : Call → Accepted → Type 0
CountsRun call input = IsCounted input.document input.script call.engine_was call.engine_now

-- what an outcome leaves: the source as it was, where no input is taken; the machine and the engine's count as they were, or with
-- the run on it and counted
abbrev pub Leaves : Call → Outcome → Type 0
Leaves call no_command = (call.source_now ≡ call.source_was) × NothingRan call
Leaves call (made text) = (call.source_now ≡ call.source_was) × NothingRan call
Leaves call (ran with_record input) = HoldsRun input.document input.script call.machine_now × CountsRun call input
Leaves call _ = NothingRan call

-- the text of an outcome of the call; that of a run is of the machine's events after the call
abbrev pub text_in : Call → Outcome → List ℕ
text_in call outcome = text_of call.machine_now.events outcome

-- the call came to this
abbrev pub Ends : Call → Outcome → Type 0
Ends call outcome = Comes call outcome × Leaves call outcome

-- ---- statuses

-- how a status stands to the text of its outcome: the text is written whole, and where the sink fails another status comes
-- in its place; the status stays where the sink fails; it comes where the sink failed; it comes where memory ran out
pub data Standing : Type 0 where
  by_text : Standing
  by_line : Standing
  by_fault : Standing
  by_memory : Standing

-- each status's
abbrev pub standing : Status → Standing
standing Done = by_text
standing (Exhausted cause) = by_text
standing Usage = by_line
standing (Refused refusal) = by_line
standing ReadFault = by_line
standing WriteFault = by_fault
standing NoMemory = by_memory

-- a front of a text was written, and not all of it, since the sink failed
abbrev pub CutShort : SinkModel → SinkModel → List ℕ → Type 0
CutShort old new text = GrewByFront old new text × Rose old.faults new.faults

-- ---- want of memory

-- no more was taken than an intake allows
abbrev pub TookWithin : Option Intake → SourceModel → SourceModel → Type 0
TookWithin None old new = new ≡ old
TookWithin (Some intake) old new = TookAtMost old new intake.limit

-- the call came to a run, and the engine's count is as it was, or has that run in it
abbrev pub ComesToRun : Call → Type 0
ComesToRun call =
    (with_record : Bool) × (input : Accepted) × Comes call (ran with_record input)
    × ((call.engine_now ≡ call.engine_was) ⊎ CountsRun call input)

-- memory ran out before there was a text to write: no more was taken than the command may take, and the machine and the engine's
-- count are as they were unless the document came to run
abbrev pub RanOut : Call → Type 0
RanOut call = TookWithin (intake_in call.words) call.source_was call.source_now × (NothingRan call ⊎ ComesToRun call)

-- ---- calls

-- what a call wrote, and which outcome it came to, by the standing of its status
abbrev pub Stands : Standing → Call → SinkModel → SinkModel → Status → Type 0
Stands by_text call old new status =
    (outcome : Outcome) × Ends call outcome × (status_of outcome ≡ status) × Grew old new (text_in call outcome)
Stands by_line call old new status =
    (outcome : Outcome) × Ends call outcome × (status_of outcome ≡ status)
    × (Grew old new (text_in call outcome) ⊎ CutShort old new (text_in call outcome))
Stands by_fault call old new status =
    (outcome : Outcome) × Ends call outcome × (standing (status_of outcome) ≡ by_text) × CutShort old new (text_in call outcome)
Stands by_memory call old new status =
    (RanOut call × (new ≡ old)) ⊎ ((outcome : Outcome) × Ends call outcome × GrewByFront old new (text_in call outcome))

-- the whole of a call: what it came to, and what it wrote to the sink, by its status
abbrev pub Meets : Call → SinkModel → SinkModel → Status → Type 0
Meets call old new status = Stands (standing status) call old new status
