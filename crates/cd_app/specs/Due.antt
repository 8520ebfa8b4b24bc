-- Which outcome is due by the words and by the bytes that the source has. And the laws of it.
use Rattle.std.specs.Prelude.{◌≡◌, ◌⊎◌, ◌≤◌, true, List, ℕ, Option, None, Some}
use Rattle.cd_base.specs.Ends.{SourceModel, SinkModel, Rose, Grew}
use Rattle.cd_tree.specs.declared.event.Event.{Event}
use Rattle.cd_app.specs.declared.status.Status.{Status}
use Rattle.cd_app.specs.declared.status.Status.TheVariants.{NoMemory}
use Rattle.cd_app.specs.Deeds.{Intake, Accepted, deed_in, intake_in}
use Rattle.cd_app.specs.Outcomes.{AreInput, Outcome, ran, ComesOf, status_of, text_of}
use Rattle.cd_app.specs.Calls.{Call, text_in, Ends, Meets}

-- the outcome that is due where these are the words and the bytes that the source has, and no source, sink or memory fails
abbrev pub IsDue : List (List ℕ) → List ℕ → Outcome → Type 0
IsDue words bytes outcome = ComesOf (AreInput bytes) (deed_in words) outcome

-- the bytes that the source has are known, and it did not fail
abbrev pub Serves : SourceModel → SourceModel → List ℕ → Type 0
Serves had left bytes = (had.left ≡ Some bytes) × (Rose had.faults left.faults → ⊥)

-- a source serves a command that takes an input; of another nothing is asked
abbrev pub ServesFor : Option Intake → SourceModel → SourceModel → List ℕ → Type 0
ServesFor None had left bytes = Unit {0}
ServesFor (Some intake) had left bytes = Serves had left bytes

-- ---- laws

-- some outcome is due
abbrev pub OutcomeIsThere : Type 0
OutcomeIsThere = (words : List (List ℕ)) (bytes : List ℕ) → (outcome : Outcome) × IsDue words bytes outcome

-- and only one
abbrev pub OutcomeIsOne : Type 0
OutcomeIsOne =
    (words : List (List ℕ)) (bytes : List ℕ) (one other : Outcome) → IsDue words bytes one → IsDue words bytes other → one ≡ other

-- a call came to this, its status says so, and its text was written whole
abbrev pub Gives : Call → SinkModel → SinkModel → Status → Outcome → Type 0
Gives call old new status outcome = Ends call outcome × (status_of outcome ≡ status) × Grew old new (text_in call outcome)

-- where the source serves the command, and the sink does not fail, a call gives what is due, unless memory ran out
abbrev pub OutcomeIsGiven : Type 0
OutcomeIsGiven =
    (call : Call) (old new : SinkModel) (bytes : List ℕ) (status : Status) → Meets call old new status
    → ServesFor (intake_in call.words) call.source_was call.source_now bytes → (Rose old.faults new.faults → ⊥)
    → (status ≡ NoMemory) ⊎ ((outcome : Outcome) × IsDue call.words bytes outcome × Gives call old new status outcome)

-- no count of faults falls
abbrev pub CountsDoNotFall : Type 0
CountsDoNotFall =
    (call : Call) (old new : SinkModel) (status : Status) → Meets call old new status
    → (call.source_was.faults ≤ call.source_now.faults) × (old.faults ≤ new.faults)

-- an outcome with a text of its own: any but a run whose record is written too
abbrev pub HasOwnText : Outcome → Type 0
HasOwnText outcome = (input : Accepted) → outcome ≡ ran true input → ⊥

-- such a text is known by the outcome, whatever the machine has on record
abbrev pub OwnTextIsOne : Type 0
OwnTextIsOne = (outcome : Outcome) (events others : List Event) → HasOwnText outcome → text_of events outcome ≡ text_of others outcome
