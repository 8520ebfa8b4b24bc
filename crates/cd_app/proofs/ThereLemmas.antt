-- Some outcome is due, whatever the words and the bytes.
use Rattle.std.proofs.Common.{◌≡◌, ◌⊎◌, ℕ, ◌^◌, ◌<◌, ◌≤◌, List, length, Option, None, Some, Result, Ok, Err, refl, inl, inr, arith}
use Rattle.std.specs.Prelude.{option_map}
use Rattle.cd_tree.specs.declared.document.Document.{Document}
use Rattle.cd_tree.specs.declared.document.Fault.{Fault}
use Rattle.cd_tree.specs.declared.refusal.Refusal.{Refusal}
use Rattle.cd_tree.specs.Limits.{faults_limit}
use Rattle.cd_check.specs.Checking.{Passes}
use Rattle.cd_check.specs.There.{IsRefused, DocumentIsJudged}
use Rattle.cd_parse.specs.Laws.{ParsedIsWellRead}
use Rattle.cd_parse.specs.WellRead.{WellRead}
use Rattle.cd_parse.specs.Parsing.{parse}
use Rattle.cd_command.specs.declared.command.Command.{Command}
use Rattle.cd_command.specs.declared.command.Command.TheVariants.{Check, Read, Lift, Run, Make}
use Rattle.cd_command.specs.CommandLine.{command_in}
use Rattle.cd_make.specs.Making.{make_text}
use Rattle.cd_app.specs.Running.{check_text, read_text, lift_text}
use Rattle.cd_app.specs.Deeds.{one_document, Accepted, deed_of}
use Rattle.cd_app.specs.Outcomes.{Input, whole, too_much, AreInput, AcceptsBytes, Outcome, no_command, made, refused, said, ran, Judged, ComesOfInput, ComesOf}
use Rattle.cd_app.specs.Due.{OutcomeIsThere}

-- ---- something comes of each input

-- a document that was read has no more strikes than a script may have
few_strikes : (document : Document) → WellRead document → length document.faults < 2 ^ 32
few_strikes document well = let few : length document.faults ≤ faults_limit = well.few_faults in omega arith

judged_some : ParsedIsWellRead → DocumentIsJudged → (next : Accepted → Outcome) (bytes : List ℕ)
    → (outcome : Outcome) × Judged one_document bytes next outcome
judged_some well judged next bytes = go (parse bytes) refl
  where
    accepted : (document : Document) (script : List Fault) → parse bytes ≡ Ok document → Passes document script
        → (outcome : Outcome) × Judged one_document bytes next outcome
    accepted document script is passes =
        let input : Accepted = record { bytes = bytes; document = document; script = script } in
        let accepts : AcceptsBytes one_document input = record { read = is; checked = passes.checked; passes = passes } in
        (next input, inr (input, refl, accepts, refl))

    by_checks : (document : Document) → parse bytes ≡ Ok document
        → ((refusal : Refusal) × IsRefused document refusal) ⊎ ((script : List Fault) × Passes document script)
        → (outcome : Outcome) × Judged one_document bytes next outcome
    by_checks document is (inl (refusal, says)) = (refused (Some document) refusal, inl (Some document, refusal, (is, says), refl))
    by_checks document is (inr (script, passes)) = accepted document script is passes

    go : (r : Result Document Refusal) → parse bytes ≡ r → (outcome : Outcome) × Judged one_document bytes next outcome
    go (Err refusal) is = (refused None refusal, inl (None, refusal, is, refl))
    go (Ok document) is = by_checks document is (judged document (well bytes document is).tree (few_strikes document (well bytes document is)))

short_or_long : (size limit : ℕ) → (size ≤ limit) ⊎ (limit < size)
short_or_long size limit = grind arith

-- something comes of bytes, as far as the limit lets them be taken
bytes_some : ParsedIsWellRead → DocumentIsJudged → (next : Accepted → Outcome) (bytes : List ℕ)
    → (outcome : Outcome) × ((input : Input) × AreInput bytes one_document.limit input × ComesOfInput one_document next input outcome)
bytes_some well judged next bytes = go (short_or_long (length bytes) one_document.limit)
  where
    go : (length bytes ≤ one_document.limit) ⊎ (one_document.limit < length bytes)
        → (outcome : Outcome) × ((input : Input) × AreInput bytes one_document.limit input × ComesOfInput one_document next input outcome)
    go (inl short) =
        let behind = judged_some well judged next bytes in (behind.0, (whole bytes, (refl, short), behind.1))
    go (inr long) = (refused None one_document.beyond, (too_much, long, refl))

command_some : ParsedIsWellRead → DocumentIsJudged → (command : Option Command) (bytes : List ℕ)
    → (outcome : Outcome) × ComesOf (AreInput bytes) (option_map deed_of command) outcome
command_some well judged None bytes = (no_command, refl)
command_some well judged (Some Check) bytes = bytes_some well judged (λ input. said (check_text input.document)) bytes
command_some well judged (Some Read) bytes = bytes_some well judged (λ input. said (read_text input.document input.script)) bytes
command_some well judged (Some Lift) bytes = bytes_some well judged (λ input. said (lift_text input.document)) bytes
command_some well judged (Some (Run workers with_record)) bytes = bytes_some well judged (λ input. ran with_record input) bytes
command_some well judged (Some (Make size)) bytes = (made (make_text size), refl)

pub outcome_is_there : ParsedIsWellRead → DocumentIsJudged → OutcomeIsThere
outcome_is_there well judged words bytes = command_some well judged (command_in words) bytes
