-- Texts that are written one behind the other, and the status of a call that wrote the text of an outcome.
use Rattle.std.proofs.Common.{◌≡◌, ◌⊎◌, ℕ, ◌+◌, ◌≤◌, List, ◌++◌, length, take, Option, None, Some, Result, Ok, Err, refl, sym, subst, inl, inr, arith}
use Rattle.std.proofs.KnownBytes.{Appends-trans}
use Rattle.std.proofs.lemmas.List.{take-append-le, length-append}
use Rattle.std.proofs.Math.Seq.{take-append-add}
use Rattle.cd_base.specs.declared.sink.WriteStop.{WriteStop}
use Rattle.cd_base.specs.declared.sink.WriteStop.TheVariants as write
use Rattle.cd_base.specs.Ends.{SinkModel, Rose, Grew, GrewByFront, WriteAll}
use Rattle.cd_tree.specs.declared.document.Document.{Document}
use Rattle.cd_tree.specs.declared.event.Cause.{Cause}
use Rattle.cd_tree.specs.Domains.{root_of}
use Rattle.cd_tree.specs.Meaning.{node_need}
use Rattle.cd_print.specs.Canonical.{canonical}
use Rattle.cd_reading.specs.Through.{cause_in}
use Rattle.cd_report.specs.Texts.{accepted_line}
use Rattle.cd_app.specs.declared.status.Status.{Status}
use Rattle.cd_app.specs.Running.{check_text}
use Rattle.cd_app.specs.Outcomes.{Outcome, no_command, made, not_read, refused, said, ran, status_by, status_of}
use Rattle.cd_app.specs.Calls.{Call, text_in, Ends, Standing, by_text, by_line, standing, CutShort, Stands, Meets}
use Rattle.cd_app.specs.Parts.{by_standing, behind_fault, settled}

-- ---- one text behind the other

-- a front of the first text is one of both
front_of_both : (a b : SinkModel) (first second : List ℕ) → GrewByFront a b first → GrewByFront a b (first ++ second)
front_of_both a b first second front = (
  front.0,
  omega (arith, front.1, length-append first second),
  subst (Grew a b) (sym (take-append-le front.0 first second (omega (arith, front.1)))) front.2,
)

-- the first text, and then a front of the second
front_behind : (a b d : SinkModel) (first second : List ℕ) → Grew a b first → GrewByFront b d second → GrewByFront a d (first ++ second)
front_behind a b d first second whole front = (
  length first + front.0,
  omega (arith, front.1, length-append first second),
  subst (Grew a d) (sym (take-append-add first second front.0))
      (Appends-trans a.holds b.holds d.holds first (take front.0 second) whole.0 front.2.0, omega (arith, whole.1, front.2.1)),
)

rose_later : (f g h : ℕ) → f ≤ g → Rose g h → Rose f h
rose_later f g h up rose =
    elim rose [
      | inl less ↦ inl (omega (arith, up, less))
      | inr end ↦ inr end
    ]

-- the first text was cut short
pub first_written : (T : Type 0) (a b : SinkModel) (first second : List ℕ) (stop : WriteStop)
    → WriteAll {T = T} a b first (Err stop) → WriteAll {T = T} a b (first ++ second) (Err stop)
first_written T a b first second write.Failed wrote = (front_of_both a b first second wrote.0, wrote.1)
first_written T a b first second write.NoMemory wrote = front_of_both a b first second wrote

-- the first text was written, and then the second
pub second_written : {T : Type 0} (a b d : SinkModel) (first second : List ℕ) (wrote : Result T WriteStop)
    → Grew a b first → WriteAll b d second wrote → WriteAll a d (first ++ second) wrote
second_written {T} a b d first second (Ok _) whole wrote =
    (Appends-trans a.holds b.holds d.holds first second whole.0 wrote.0, omega (arith, whole.1, wrote.1))
second_written {T} a b d first second (Err write.Failed) whole wrote =
    (front_behind a b d first second whole wrote.0, rose_later a.faults b.faults d.faults whole.1 wrote.1)
second_written {T} a b d first second (Err write.NoMemory) whole wrote = front_behind a b d first second whole wrote

-- the line of counts was cut short
pub check_cut : (T : Type 0) (a b : SinkModel) (document : Document) (need : ℕ) (stop : WriteStop)
    → need ≡ node_need (root_of document.tree.domains) → WriteAll {T = T} a b (accepted_line document need) (Err stop)
    → WriteAll {T = T} a b (check_text document) (Err stop)
unfolding check_text
check_cut T a b document need stop is wrote =
    first_written T a b (accepted_line document (node_need (root_of document.tree.domains))) (canonical document) stop
    (subst (λ (n : ℕ). WriteAll {T = T} a b (accepted_line document n) (Err stop)) is wrote)

-- the line of counts was written, and then the canonical text
pub check_written : {T : Type 0} (a b d : SinkModel) (document : Document) (need : ℕ) (wrote : Result T WriteStop)
    → need ≡ node_need (root_of document.tree.domains) → Grew a b (accepted_line document need)
    → WriteAll b d (canonical document) wrote → WriteAll a d (check_text document) wrote
unfolding check_text
check_written {T} a b d document need wrote is first second =
    second_written a b d (accepted_line document (node_need (root_of document.tree.domains))) (canonical document) wrote
    (subst (λ (n : ℕ). Grew a b (accepted_line document n)) is first) second

-- ---- the status of a call that wrote a text

-- a status that an outcome has
abbrev Speaks : Status → Type 0
Speaks status = (standing status ≡ by_text) ⊎ (standing status ≡ by_line)

run_speaks : (cause : Option Cause) → Speaks (status_by cause)
run_speaks None = inl refl
run_speaks (Some cause) = inl refl

speaks : (outcome : Outcome) → Speaks (status_of outcome)
speaks no_command = inr refl
speaks (made text) = inl refl
speaks not_read = inr refl
speaks (refused document refusal) = inr refl
speaks (said text) = inl refl
speaks (ran with_record input) = run_speaks (cause_in input.document.tree input.script)

-- a call that meets one standing meets its status
at_standing : (call : Call) (old new : SinkModel) (status : Status) (one : Standing) → standing status ≡ one
    → Stands one call old new status → Meets call old new status
at_standing call old new status one is stands = subst (λ (s : Standing). Stands s call old new status) (sym is) stands

whole_text : (call : Call) (old new : SinkModel) (outcome : Outcome) → Ends call outcome → Grew old new (text_in call outcome)
    → Speaks (status_of outcome) → Meets call old new (status_of outcome)
whole_text call old new outcome ends grew (inl is) =
    at_standing call old new (status_of outcome) by_text is (outcome, ends, refl, grew)
whole_text call old new outcome ends grew (inr is) =
    at_standing call old new (status_of outcome) by_line is (outcome, ends, refl, inl grew)

cut_text : (call : Call) (old new : SinkModel) (outcome : Outcome) → Ends call outcome → CutShort old new (text_in call outcome)
    → Speaks (status_of outcome) → Meets call old new (behind_fault (status_of outcome))
cut_text call old new outcome ends cut (inl is) =
    subst (λ (s : Standing). Meets call old new (by_standing s (status_of outcome))) (sym is) (outcome, ends, is, cut)
cut_text call old new outcome ends cut (inr is) =
    subst (λ (s : Standing). Meets call old new (by_standing s (status_of outcome))) (sym is)
    (at_standing call old new (status_of outcome) by_line is (outcome, ends, refl, inr cut))

-- the text of an outcome was written, or as much of it as could be
pub outcome_told : {T : Type 0} (call : Call) (old new : SinkModel) (outcome : Outcome) (wrote : Result T WriteStop)
    → Ends call outcome → WriteAll old new (text_in call outcome) wrote → Meets call old new (settled wrote (status_of outcome))
outcome_told {T} call old new outcome (Ok _) ends wrote = whole_text call old new outcome ends wrote (speaks outcome)
outcome_told {T} call old new outcome (Err write.Failed) ends wrote = cut_text call old new outcome ends wrote (speaks outcome)
outcome_told {T} call old new outcome (Err write.NoMemory) ends wrote = inr (outcome, ends, wrote)

-- the same, by equations for what the code has
pub told : {T : Type 0} (call : Call) (old new : SinkModel) (outcome : Outcome) (wrote : Result T WriteStop) (given : Status)
    (text : List ℕ) (status : Status) → status ≡ settled wrote given → given ≡ status_of outcome → text ≡ text_in call outcome
    → Ends call outcome → WriteAll old new text wrote → Meets call old new status
told {T} call old new outcome wrote given text status is same spells ends written =
    let whole : Meets call old new (settled wrote (status_of outcome)) =
    outcome_told call old new outcome wrote ends (subst (λ (t : List ℕ). WriteAll old new t wrote) spells written) in
    subst (λ (s : Status). Meets call old new s) (sym is)
    (subst (λ (s : Status). Meets call old new (settled wrote s)) (sym same) whole)
