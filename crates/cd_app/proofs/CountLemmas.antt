-- No count of faults falls in a call, since none falls in what it takes and writes.
use Rattle.std.proofs.Common.{◌≡◌, ◌⊎◌, ℕ, ◌≤◌, List, Option, None, Some, ap, subst, inl, inr, arith}
use Rattle.cd_base.specs.Ends.{SourceModel, SinkModel}
use Rattle.cd_app.specs.declared.status.Status.{Status}
use Rattle.cd_app.specs.Deeds.{Intake, Deed, makes, says, runs, deed_in, intake_in}
use Rattle.cd_app.specs.Outcomes.{Input, whole, too_much, unread, Gave, Outcome, no_command, made, ComesOf}
use Rattle.cd_app.specs.Calls.{Call, Leaves, Ends, Standing, by_text, by_line, by_fault, by_memory, standing, TookWithin, Stands}
use Rattle.cd_app.specs.Due.{CountsDoNotFall}

gave_up : (had left : SourceModel) (limit : ℕ) (input : Input) → Gave had left limit input → had.faults ≤ left.faults
gave_up had left limit (whole bytes) gave = gave.0.1
gave_up had left limit too_much gave = gave.1.1
gave_up had left limit unread gave = gave.0.1.1

stayed : (had left : SourceModel) → left ≡ had → had.faults ≤ left.faults
stayed had left same = let is : left.faults ≡ had.faults = ap (λ (m : SourceModel). m.faults) same in omega arith

-- an outcome that comes without an input leaves the source as it was
abbrev WithoutInput : Outcome → Type 0
WithoutInput outcome = (outcome ≡ no_command) ⊎ ((text : List ℕ) × (outcome ≡ made text))

left_alone : (call : Call) (outcome : Outcome) → WithoutInput outcome → Leaves call outcome → call.source_now ≡ call.source_was
left_alone call outcome (inl is) leaves =
    let here : Leaves call no_command = subst (λ (o : Outcome). Leaves call o) is leaves in here.0
left_alone call outcome (inr (text, is)) leaves =
    let here : Leaves call (made text) = subst (λ (o : Outcome). Leaves call o) is leaves in here.0

ends_up : (call : Call) (outcome : Outcome) → Ends call outcome → call.source_was.faults ≤ call.source_now.faults
ends_up call outcome ends = go (deed_in call.words) ends.0
  where
    go : (deed : Option Deed) → ComesOf (Gave call.source_was call.source_now) deed outcome → call.source_was.faults ≤ call.source_now.faults
    go None comes = stayed call.source_was call.source_now (left_alone call outcome (inl comes) ends.1)
    go (Some (makes text)) comes = stayed call.source_was call.source_now (left_alone call outcome (inr (text, comes)) ends.1)
    go (Some (says intake text_of)) comes = gave_up call.source_was call.source_now intake.limit comes.0 comes.1
    go (Some (runs intake with_record)) comes = gave_up call.source_was call.source_now intake.limit comes.0 comes.1

within_up : (intake : Option Intake) (had left : SourceModel) → TookWithin intake had left → had.faults ≤ left.faults
within_up None had left same = stayed had left same
within_up (Some intake) had left took = took.1.1

sink_stayed : (old new : SinkModel) → new ≡ old → old.faults ≤ new.faults
sink_stayed old new same = let is : new.faults ≡ old.faults = ap (λ (m : SinkModel). m.faults) same in omega arith

stands_up : (call : Call) (old new : SinkModel) (status : Status) (stands : Standing) → Stands stands call old new status
    → (call.source_was.faults ≤ call.source_now.faults) × (old.faults ≤ new.faults)
stands_up call old new status by_text (outcome, ends, same, grew) = (ends_up call outcome ends, grew.1)
stands_up call old new status by_line (outcome, ends, same, inl grew) = (ends_up call outcome ends, grew.1)
stands_up call old new status by_line (outcome, ends, same, inr cut) = (ends_up call outcome ends, cut.0.2.1)
stands_up call old new status by_fault (outcome, ends, same, cut) = (ends_up call outcome ends, cut.0.2.1)
stands_up call old new status by_memory (inl (ran_out, same)) =
    (within_up (intake_in call.words) call.source_was call.source_now ran_out.0, sink_stayed old new same)
stands_up call old new status by_memory (inr (outcome, ends, grew)) = (ends_up call outcome ends, grew.2.1)

pub counts_do_not_fall : CountsDoNotFall
counts_do_not_fall call old new status meets = stands_up call old new status (standing status) meets
