-- What a call comes to is due by the words and by the bytes that the source has; and one outcome is due.
use Rattle.std.proofs.Common.{◌≡◌, ◌⊎◌, ℕ, ◌+◌, ◌<◌, ◌≤◌, Bool, true, false, List, ◌++◌, length, Option, None, Some, Ok, Err, refl, ap, sym, subst, ◌∙◌, inl, inr, arith, append-nil, length-append}
use Rattle.std.specs.Prelude.{option_and_then}
use Rattle.std.specs.Io.KnownBytes.{Consumes, IsAtEnd}
use Rattle.cd_base.specs.Ends.{SourceModel, SinkModel, Rose}
use Rattle.cd_tree.specs.declared.document.Document.{Document}
use Rattle.cd_tree.specs.declared.document.Fault.{Fault}
use Rattle.cd_tree.specs.declared.event.Event.{Event}
use Rattle.cd_tree.specs.declared.refusal.Refusal.{Refusal}
use Rattle.cd_check.specs.Checking.{Question, FirstRefusalOf, Passes}
use Rattle.cd_check.specs.Laws.{FirstRefusalIsOne, ScriptIsOne}
use Rattle.cd_parse.specs.Laws.{ParsedIsWellRead}
use Rattle.cd_parse.specs.Parsing.{parse}
use Rattle.cd_report.specs.Reports.{report_of}
use Rattle.cd_app.specs.declared.status.Status.{Status}
use Rattle.cd_app.specs.declared.status.Status.TheVariants.{Done, Exhausted, Usage, Refused, ReadFault, WriteFault, NoMemory}
use Rattle.cd_app.specs.Deeds.{Intake, Accepted, Deed, makes, says, runs, deed_in, intake_of, intake_in}
use Rattle.cd_app.specs.Outcomes.{Input, whole, too_much, unread, Gave, AreInput, RefusesBytes, AcceptsBytes, Outcome, no_command, made, not_read, refused, said, ran, Judged, ComesOfInput, ComesOf, text_of}
use Rattle.cd_app.specs.Calls.{Call, Ends, Standing, by_text, by_line, by_fault, by_memory, standing, Stands}
use Rattle.cd_app.specs.Due.{IsDue, Serves, ServesFor, OutcomeIsOne, OutcomeIsGiven, Gives, HasOwnText, OwnTextIsOne}

-- ---- the bytes that a source has

-- what is taken from a source until it is at its end is all that it had
all_bytes : (had left : Option (List ℕ)) (bytes taken : List ℕ) → had ≡ Some bytes → Consumes had left taken → IsAtEnd left
    → taken ≡ bytes
all_bytes None left bytes taken known all end = cc
all_bytes (Some old) None bytes taken known all end = absurd all
all_bytes (Some old) (Some rest) bytes taken known all end =
    let is : old ≡ bytes = cc in
    sym (sym is ∙ all ∙ ap (λ (l : List ℕ). taken ++ l) end ∙ append-nil taken)

-- a source from which more than n bytes were taken had more than n
long_bytes : (had left : Option (List ℕ)) (bytes taken : List ℕ) (n : ℕ) → had ≡ Some bytes → Consumes had left taken
    → length taken ≡ n + 1 → n < length bytes
long_bytes None left bytes taken n known all size = cc
long_bytes (Some old) None bytes taken n known all size = absurd all
long_bytes (Some old) (Some rest) bytes taken n known all size =
    let is : old ≡ bytes = cc in
    let sum : length bytes ≡ length taken + length rest = ap length (sym is ∙ all) ∙ length-append taken rest in
    omega arith

-- what a source gave, that serves, are the bytes that it has
input_known : (had left : SourceModel) (bytes : List ℕ) → Serves had left bytes → (limit : ℕ) (input : Input)
    → Gave had left limit input → AreInput bytes limit input
input_known had left bytes serves limit (whole taken) gave =
    let same : taken ≡ bytes = all_bytes had.left left.left bytes taken serves.0 gave.0.0 gave.1 in
    (same, subst (λ (l : List ℕ). length l ≤ limit) same gave.2)
input_known had left bytes serves limit too_much gave =
    long_bytes had.left left.left bytes gave.0 limit serves.0 gave.1.0 gave.2
input_known had left bytes serves limit unread gave = absurd (serves.1 gave.1)

-- ---- what a call came to is due

-- what comes of one account of the input comes of another that holds where the first does
by_account : (One Other : ℕ → Input → Type 0) (deed : Option Deed) (outcome : Outcome)
    → ((intake : Intake) → option_and_then intake_of deed ≡ Some intake → (input : Input) → One intake.limit input → Other intake.limit input)
    → ComesOf One deed outcome → ComesOf Other deed outcome
by_account One Other None outcome turn comes = comes
by_account One Other (Some (makes text)) outcome turn comes = comes
by_account One Other (Some (says intake text_of)) outcome turn comes = (comes.0, turn intake refl comes.0 comes.1, comes.2)
by_account One Other (Some (runs intake with_record)) outcome turn comes = (comes.0, turn intake refl comes.0 comes.1, comes.2)

serves_it : (intakes : Option Intake) (had left : SourceModel) (bytes : List ℕ) → ServesFor intakes had left bytes → (intake : Intake)
    → intakes ≡ Some intake → Serves had left bytes
serves_it None had left bytes serves intake is = cc
serves_it (Some other) had left bytes serves intake is = serves

ends_due : (call : Call) (bytes : List ℕ) (outcome : Outcome) → ServesFor (intake_in call.words) call.source_was call.source_now bytes
    → Ends call outcome → IsDue call.words bytes outcome
ends_due call bytes outcome serves ends =
    by_account (Gave call.source_was call.source_now) (AreInput bytes) (deed_in call.words) outcome
    (λ intake takes input gave.
    input_known call.source_was call.source_now bytes (serves_it (intake_in call.words) call.source_was call.source_now bytes serves intake takes) intake.limit input gave)
    ends.0

-- ---- where the sink does not fail, the text is whole

memory_alone : (status : Status) → standing status ≡ by_memory → status ≡ NoMemory
memory_alone Done is = cc
memory_alone (Exhausted cause) is = cc
memory_alone Usage is = cc
memory_alone (Refused refusal) is = cc
memory_alone ReadFault is = cc
memory_alone WriteFault is = cc
memory_alone NoMemory is = refl

-- a call that came to an outcome, and wrote its text whole
abbrev IsWhole : Call → SinkModel → SinkModel → Status → Type 0
IsWhole call old new status = (outcome : Outcome) × Gives call old new status outcome

written_whole : (call : Call) (old new : SinkModel) (status : Status) (stands : Standing) → standing status ≡ stands
    → (Rose old.faults new.faults → ⊥) → Stands stands call old new status → (status ≡ NoMemory) ⊎ IsWhole call old new status
written_whole call old new status by_text is quiet (outcome, ends, same, grew) = inr (outcome, (ends, same, grew))
written_whole call old new status by_line is quiet (outcome, ends, same, inl grew) = inr (outcome, (ends, same, grew))
written_whole call old new status by_line is quiet (outcome, ends, same, inr cut) = absurd (quiet cut.1)
written_whole call old new status by_fault is quiet (outcome, ends, same, cut) = absurd (quiet cut.1)
written_whole call old new status by_memory is quiet stands = inl (memory_alone status is)

-- a call gives what is due
pub outcome_given : OutcomeIsGiven
outcome_given call old new bytes status meets serves quiet =
    go (written_whole call old new status (standing status) refl quiet meets)
  where
    go : (status ≡ NoMemory) ⊎ IsWhole call old new status
        → (status ≡ NoMemory) ⊎ ((outcome : Outcome) × IsDue call.words bytes outcome × Gives call old new status outcome)
    go (inl none) = inl none
    go (inr (outcome, gives)) = inr (outcome, ends_due call bytes outcome serves gives.0, gives)

-- ---- bytes are one thing

too_long : (size limit : ℕ) → limit < size → size ≤ limit → ⊥
too_long size limit long short = omega arith

-- bytes are one input
one_input : (bytes : List ℕ) (limit : ℕ) (one other : Input) → AreInput bytes limit one → AreInput bytes limit other → one ≡ other
one_input bytes limit (whole first) (whole second) p q = ap whole (p.0 ∙ sym q.0)
one_input bytes limit (whole first) too_much p q = absurd (too_long (length bytes) limit q p.1)
one_input bytes limit (whole first) unread p q = absurd q
one_input bytes limit too_much (whole second) p q = absurd (too_long (length bytes) limit p q.1)
one_input bytes limit too_much too_much p q = refl
one_input bytes limit too_much unread p q = absurd q
one_input bytes limit unread other p q = absurd p

one_document : (bytes : List ℕ) (one other : Document) → parse bytes ≡ Ok one → parse bytes ≡ Ok other → one ≡ other
one_document bytes one other p q = let same : Ok one ≡ Ok other = sym p ∙ q in cc

-- bytes are a document or none
not_both : (bytes : List ℕ) (document : Document) (refusal : Refusal) → parse bytes ≡ Ok document → parse bytes ≡ Err refusal → ⊥
not_both bytes document refusal p q = let same : Ok document ≡ Err refusal = sym p ∙ q in cc

none_is_some : (refusal : Refusal) → None ≡ Some refusal → ⊥
none_is_some refusal same = cc

some_refusal : (one other : Refusal) → Some one ≡ Some other → one ≡ other
some_refusal one other same = cc

-- the questions have one answer for a document that bytes are
one_answer : ParsedIsWellRead → FirstRefusalIsOne → (questions : List Question) (bytes : List ℕ) (one other : Document)
    (first second : Option Refusal) → parse bytes ≡ Ok one → parse bytes ≡ Ok other → FirstRefusalOf questions one first
    → FirstRefusalOf questions other second → first ≡ second
one_answer well refusal questions bytes one other first second p q says_first says_second =
    let same : one ≡ other = one_document bytes one other p q in
    let here : FirstRefusalOf questions one second =
    subst (λ (document : Document). FirstRefusalOf questions document second) (sym same) says_second in
    refusal questions one (well bytes one p).tree first second says_first here

-- bytes are refused for one thing
one_refusal : ParsedIsWellRead → FirstRefusalIsOne → (intake : Intake) (bytes : List ℕ) (one other : Option Document)
    (first second : Refusal) → RefusesBytes intake bytes one first → RefusesBytes intake bytes other second
    → refused one first ≡ refused other second
one_refusal well refusal intake bytes None None first second p q =
    let same : Err first ≡ Err second = sym p ∙ q in let is : first ≡ second = cc in ap (refused None) is
one_refusal well refusal intake bytes None (Some other) first second p q =
    absurd (not_both (intake.document_in bytes) other first q.0 p)
one_refusal well refusal intake bytes (Some one) None first second p q =
    absurd (not_both (intake.document_in bytes) one second p.0 q)
one_refusal well refusal intake bytes (Some one) (Some other) first second p q =
    let text = intake.document_in bytes in
    let same : one ≡ other = one_document text one other p.0 q.0 in
    let is : first ≡ second =
    some_refusal first second (one_answer well refusal intake.questions text one other (Some first) (Some second) p.0 q.0 p.1 q.1) in
    ap (λ (document : Document). refused (Some document) first) same ∙ ap (refused (Some other)) is

-- bytes that are accepted are not refused
not_refused : ParsedIsWellRead → FirstRefusalIsOne → (intake : Intake) (input : Accepted) (document : Option Document) (refusal : Refusal)
    → AcceptsBytes intake input → RefusesBytes intake input.bytes document refusal → ⊥
not_refused well first intake input None refusal p q = not_both (intake.document_in input.bytes) input.document refusal p.read q
not_refused well first intake input (Some other) refusal p q =
    none_is_some refusal
    (one_answer well first intake.questions (intake.document_in input.bytes) input.document other None (Some refusal) p.read q.0 p.checked q.1)

-- bytes are accepted as one thing
one_acceptance : ParsedIsWellRead → ScriptIsOne → (intake : Intake) (one other : Accepted) → one.bytes ≡ other.bytes
    → AcceptsBytes intake one → AcceptsBytes intake other → one ≡ other
one_acceptance well script intake one other same p q =
    let text = intake.document_in other.bytes in
    let read : parse text ≡ Ok one.document = subst (λ (l : List ℕ). parse (intake.document_in l) ≡ Ok one.document) same p.read in
    let document : one.document ≡ other.document = one_document text one.document other.document read q.read in
    let passes : Passes one.document other.script = subst (λ (d : Document). Passes d other.script) (sym document) q.passes in
    let faults : one.script ≡ other.script = script one.document (well text one.document read).tree one.script other.script p.passes passes in
    let at_bytes : List ℕ → Accepted = λ b. record { bytes = b; document = one.document; script = one.script } in
    let at_document : Document → Accepted = λ d. record { bytes = other.bytes; document = d; script = one.script } in
    let at_script : List Fault → Accepted = λ s. record { bytes = other.bytes; document = other.document; script = s } in
    ap at_bytes same ∙ ap at_document document ∙ ap at_script faults

-- ---- one outcome is due

judged_one : ParsedIsWellRead → FirstRefusalIsOne → ScriptIsOne → (intake : Intake) (next : Accepted → Outcome) (bytes : List ℕ)
    (one other : Outcome) → Judged intake bytes next one → Judged intake bytes next other → one ≡ other
judged_one well refusal script intake next bytes one other (inl (d, r, p, is)) (inl (e, s, q, same)) =
    is ∙ one_refusal well refusal intake bytes d e r s p q ∙ sym same
judged_one well refusal script intake next bytes one other (inl (d, r, p, is)) (inr (input, taken, q, comes)) =
    absurd (not_refused well refusal intake input d r q (subst (λ (l : List ℕ). RefusesBytes intake l d r) (sym taken) p))
judged_one well refusal script intake next bytes one other (inr (input, taken, p, comes)) (inl (e, s, q, same)) =
    absurd (not_refused well refusal intake input e s p (subst (λ (l : List ℕ). RefusesBytes intake l e s) (sym taken) q))
judged_one well refusal script intake next bytes one other (inr (first, taken, p, comes)) (inr (second, had, q, goes)) =
    comes ∙ ap next (one_acceptance well script intake first second (taken ∙ sym had) p q) ∙ sym goes

input_one : ParsedIsWellRead → FirstRefusalIsOne → ScriptIsOne → (intake : Intake) (next : Accepted → Outcome) (input : Input)
    (one other : Outcome) → ComesOfInput intake next input one → ComesOfInput intake next input other → one ≡ other
input_one well refusal script intake next (whole bytes) one other p q = judged_one well refusal script intake next bytes one other p q
input_one well refusal script intake next too_much one other p q = p ∙ sym q
input_one well refusal script intake next unread one other p q = p ∙ sym q

-- what the account of the bytes gives, and what comes of that
abbrev ComesOfBytes : List ℕ → Intake → (Accepted → Outcome) → Outcome → Type 0
ComesOfBytes bytes intake next outcome = (input : Input) × AreInput bytes intake.limit input × ComesOfInput intake next input outcome

bytes_one : ParsedIsWellRead → FirstRefusalIsOne → ScriptIsOne → (bytes : List ℕ) (intake : Intake) (next : Accepted → Outcome)
    (one other : Outcome) → ComesOfBytes bytes intake next one → ComesOfBytes bytes intake next other → one ≡ other
bytes_one well refusal script bytes intake next one other (first, p, comes) (second, q, goes) =
    let same : first ≡ second = one_input bytes intake.limit first second p q in
    input_one well refusal script intake next second one other
    (subst (λ (input : Input). ComesOfInput intake next input one) same comes) goes

deed_one : ParsedIsWellRead → FirstRefusalIsOne → ScriptIsOne → (bytes : List ℕ) (deed : Option Deed) (one other : Outcome)
    → ComesOf (AreInput bytes) deed one → ComesOf (AreInput bytes) deed other → one ≡ other
deed_one well refusal script bytes None one other p q = p ∙ sym q
deed_one well refusal script bytes (Some (makes text)) one other p q = p ∙ sym q
deed_one well refusal script bytes (Some (says intake text_of)) one other p q =
    bytes_one well refusal script bytes intake (λ accepted. said (text_of accepted)) one other p q
deed_one well refusal script bytes (Some (runs intake with_record)) one other p q =
    bytes_one well refusal script bytes intake (λ accepted. ran with_record accepted) one other p q

pub outcome_is_one : ParsedIsWellRead → FirstRefusalIsOne → ScriptIsOne → OutcomeIsOne
outcome_is_one well refusal script words bytes one other p q = deed_one well refusal script bytes (deed_in words) one other p q

-- ---- texts

ran_text_is_one : (with_record : Bool) (input : Accepted) (events others : List Event) → HasOwnText (ran with_record input)
    → text_of events (ran with_record input) ≡ text_of others (ran with_record input)
unfolding report_of
ran_text_is_one true input events others own = absurd (own input refl)
ran_text_is_one false input events others own = refl

-- no text but a record is of the machine
pub own_text_is_one : OwnTextIsOne
own_text_is_one no_command events others own = refl
own_text_is_one (made text) events others own = refl
own_text_is_one not_read events others own = refl
own_text_is_one (refused document refusal) events others own = refl
own_text_is_one (said text) events others own = refl
own_text_is_one (ran with_record input) events others own = ran_text_is_one with_record input events others own
