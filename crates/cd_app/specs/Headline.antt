-- What a run that came to its end has left and told, in one place.
use Rattle.std.specs.Prelude.{◌≡◌, ℕ, Bool, true, false, List, Option, None, Some}
use Rattle.cd_base.specs.Ends.{SinkModel, Grew}
use Rattle.cd_tree.specs.declared.event.Cause.{Cause}
use Rattle.cd_reading.specs.Through.{cause_in}
use Rattle.cd_app.specs.declared.status.Status.{Status}
use Rattle.cd_app.specs.declared.status.Status.TheVariants.{Done, Exhausted, WriteFault}
use Rattle.cd_app.specs.Running.{HoldsRun, ran_text}
use Rattle.cd_app.specs.Deeds.{Accepted, one_document, runs, deed_in}
use Rattle.cd_app.specs.Outcomes.{whole, Gave, AcceptsBytes}
use Rattle.cd_app.specs.Calls.{Call, CountsRun, CutShort, Meets}

-- these statuses come of a run, where the words ask for one
abbrev pub comes_of_a_run : Status → Bool
comes_of_a_run Done = true
comes_of_a_run (Exhausted cause) = true
comes_of_a_run WriteFault = true
comes_of_a_run _ = false

-- what a status says of the reading's cause, and of how much of the text was written
abbrev pub Tells : Status → SinkModel → SinkModel → Option Cause → List ℕ → Type 0
Tells Done old new cause text = (cause ≡ None) × Grew old new text
Tells (Exhausted why) old new cause text = (cause ≡ Some why) × Grew old new text
Tells WriteFault old new cause text = CutShort old new text
Tells _ old new cause text = ⊥

-- the source gave an accepted document; the machine's record is legal for its one-thread reading, and the regions are the
-- fault-free program's or, where the script exhausts the root, the initial ones, with nothing lost; status and text say so; and the
-- engine counted the reading's begins
pub record RunIsTold (call : Call) (old new : SinkModel) (status : Status) (with_record : Bool) : Type 0 where
  pub input : Accepted
  pub gave : Gave call.source_was call.source_now one_document.limit (whole input.bytes)
  pub accepted : AcceptsBytes one_document input
  pub holds : HoldsRun input.document input.script call.machine_now
  pub tells : Tells status old new (cause_in input.document.tree input.script)
      (ran_text with_record input.document input.script call.machine_now.events)
  pub counts : CountsRun call input

-- each run that came to its end is told
abbrev pub RunsAreTold : Type 0
RunsAreTold =
    (call : Call) (old new : SinkModel) (status : Status) (with_record : Bool)
    → deed_in call.words ≡ Some (runs one_document with_record) → comes_of_a_run status ≡ true → Meets call old new status
    → RunIsTold call old new status with_record
