-- A run that came to its end, read off what its call meets.
use Rattle.std.proofs.Common.{◌≡◌, ℕ, Bool, List, Option, None, Some, refl, ap, sym, subst, ◌∙◌, inl, inr}
use Rattle.cd_base.specs.Ends.{Grew}
use Rattle.cd_tree.specs.declared.event.Cause.{Cause}
use Rattle.cd_reading.specs.Through.{cause_in}
use Rattle.cd_app.specs.declared.status.Status.{Status}
use Rattle.cd_app.specs.declared.status.Status.TheVariants.{Done, Exhausted, Usage, Refused, ReadFault, WriteFault, NoMemory}
use Rattle.cd_app.specs.Running.{HoldsRun}
use Rattle.cd_app.specs.Deeds.{one_document, Accepted, Deed, runs, deed_in}
use Rattle.cd_app.specs.Outcomes.{Input, whole, too_much, unread, Gave, AcceptsBytes, Outcome, refused, not_read, ran, Judged, ComesOfInput, ComesOf, status_by, status_of}
use Rattle.cd_app.specs.Calls.{Call, CountsRun, text_in, Leaves, Ends, by_text, by_line, standing, CutShort}
use Rattle.cd_app.specs.Headline.{RunsAreTold}

-- an outcome that is a run of an accepted input
record IsRun (call : Call) (with_record : Bool) (outcome : Outcome) : Type 0 where
  input : Accepted
  gave : Gave call.source_was call.source_now one_document.limit (whole input.bytes)
  accepted : AcceptsBytes one_document input
  is : outcome ≡ ran with_record input

-- an outcome that only a line tells of is not told by a text
not_by_line : (outcome other : Outcome) → outcome ≡ other → standing (status_of other) ≡ by_line → standing (status_of outcome) ≡ by_text → ⊥
not_by_line outcome other same line text =
    let wrong : by_line ≡ by_text = sym line ∙ sym (ap (λ (o : Outcome). standing (status_of o)) same) ∙ text in cc

whole_runs : (call : Call) (with_record : Bool) (bytes : List ℕ) (outcome : Outcome)
    → Gave call.source_was call.source_now one_document.limit (whole bytes) → Judged one_document bytes (λ input. ran with_record input) outcome
    → standing (status_of outcome) ≡ by_text → IsRun call with_record outcome
whole_runs call with_record bytes outcome gave (inl (document, refusal, refuses, is)) text =
    absurd (not_by_line outcome (refused document refusal) is refl text)
whole_runs call with_record bytes outcome gave (inr (input, same, accepts, is)) text =
    record {
      input = input;
      gave = subst (λ (l : List ℕ). Gave call.source_was call.source_now one_document.limit (whole l)) (sym same) gave;
      accepted = accepts;
      is = is;
    }

input_runs : (call : Call) (with_record : Bool) (input : Input) (outcome : Outcome)
    → Gave call.source_was call.source_now one_document.limit input → ComesOfInput one_document (λ accepted. ran with_record accepted) input outcome
    → standing (status_of outcome) ≡ by_text → IsRun call with_record outcome
input_runs call with_record (whole bytes) outcome gave comes text = whole_runs call with_record bytes outcome gave comes text
input_runs call with_record too_much outcome gave comes text =
    absurd (not_by_line outcome (refused None one_document.beyond) comes refl text)
input_runs call with_record unread outcome gave comes text = absurd (not_by_line outcome not_read comes refl text)

runs_by_text : (call : Call) (with_record : Bool) (outcome : Outcome) → deed_in call.words ≡ Some (runs one_document with_record)
    → Ends call outcome → standing (status_of outcome) ≡ by_text → IsRun call with_record outcome
runs_by_text call with_record outcome asked ends text =
    let comes : ComesOf (Gave call.source_was call.source_now) (Some (runs one_document with_record)) outcome =
    subst (λ (d : Option Deed). ComesOf (Gave call.source_was call.source_now) d outcome) asked ends.0 in
    input_runs call with_record comes.0 outcome comes.1 comes.2 text

-- what it leaves
left : (call : Call) (with_record : Bool) (outcome : Outcome) (run : IsRun call with_record outcome) → Ends call outcome
    → Leaves call (ran with_record run.input)
left call with_record outcome run ends = subst (λ (o : Outcome). Leaves call o) run.is ends.1

-- the machine holds it
held : (call : Call) (with_record : Bool) (outcome : Outcome) (run : IsRun call with_record outcome) → Ends call outcome
    → HoldsRun run.input.document run.input.script call.machine_now
held call with_record outcome run ends = (left call with_record outcome run ends).0

-- and the engine counted it
counted_in : (call : Call) (with_record : Bool) (outcome : Outcome) (run : IsRun call with_record outcome) → Ends call outcome
    → CountsRun call run.input
counted_in call with_record outcome run ends = (left call with_record outcome run ends).1

done_cause : (cause : Option Cause) → status_by cause ≡ Done → cause ≡ None
done_cause None same = refl
done_cause (Some why) same = absurd (let wrong : Exhausted why ≡ Done = same in cc)

exhausted_cause : (cause : Option Cause) (why : Cause) → status_by cause ≡ Exhausted why → cause ≡ Some why
exhausted_cause None why same = absurd (let wrong : Done ≡ Exhausted why = same in cc)
exhausted_cause (Some other) why same = let is : Exhausted other ≡ Exhausted why = same in cc

-- what its status is by
by_cause : (call : Call) (with_record : Bool) (outcome : Outcome) (run : IsRun call with_record outcome) (status : Status)
    → status_of outcome ≡ status → status_by (cause_in run.input.document.tree run.input.script) ≡ status
by_cause call with_record outcome run status same = sym (ap status_of run.is) ∙ same

pub runs_are_told : RunsAreTold
runs_are_told call old new Done with_record asked comes (outcome, ends, same, grew) =
    let run : IsRun call with_record outcome = runs_by_text call with_record outcome asked ends (ap standing same) in
    record {
      input = run.input;
      gave = run.gave;
      accepted = run.accepted;
      holds = held call with_record outcome run ends;
      tells = (
        done_cause (cause_in run.input.document.tree run.input.script) (by_cause call with_record outcome run Done same),
        subst (λ (o : Outcome). Grew old new (text_in call o)) run.is grew,
      );
      counts = counted_in call with_record outcome run ends;
    }
runs_are_told call old new (Exhausted why) with_record asked comes (outcome, ends, same, grew) =
    let run : IsRun call with_record outcome = runs_by_text call with_record outcome asked ends (ap standing same) in
    record {
      input = run.input;
      gave = run.gave;
      accepted = run.accepted;
      holds = held call with_record outcome run ends;
      tells = (
        exhausted_cause (cause_in run.input.document.tree run.input.script) why (by_cause call with_record outcome run (Exhausted why) same),
        subst (λ (o : Outcome). Grew old new (text_in call o)) run.is grew,
      );
      counts = counted_in call with_record outcome run ends;
    }
runs_are_told call old new WriteFault with_record asked comes (outcome, ends, text, cut) =
    let run : IsRun call with_record outcome = runs_by_text call with_record outcome asked ends text in
    record {
      input = run.input;
      gave = run.gave;
      accepted = run.accepted;
      holds = held call with_record outcome run ends;
      tells = subst (λ (o : Outcome). CutShort old new (text_in call o)) run.is cut;
      counts = counted_in call with_record outcome run ends;
    }
runs_are_told call old new Usage with_record asked comes meets = absurd cc
runs_are_told call old new (Refused refusal) with_record asked comes meets = absurd cc
runs_are_told call old new ReadFault with_record asked comes meets = absurd cc
runs_are_told call old new NoMemory with_record asked comes meets = absurd cc
