-- What the words of a command ask for: a line for each command.
use Rattle.std.specs.Prelude.{ℕ, Bool, List, Option, None, Some, option_map, option_and_then}
use Rattle.cd_tree.specs.Limits.{text_limit}
use Rattle.cd_tree.specs.declared.document.Document.{Document}
use Rattle.cd_tree.specs.declared.document.Fault.{Fault}
use Rattle.cd_tree.specs.declared.refusal.Refusal.{Refusal}
use Rattle.cd_tree.specs.declared.refusal.Refusal.TheVariants.{TooLong}
use Rattle.cd_check.specs.Checking.{Question, static_checks}
use Rattle.cd_command.specs.declared.command.Command.{Command}
use Rattle.cd_command.specs.declared.command.Command.TheVariants.{Check, Read, Lift, Run, Make}
use Rattle.cd_command.specs.CommandLine.{command_in}
use Rattle.cd_make.specs.Making.{make_text}
use Rattle.cd_app.specs.Running.{check_text, read_text, lift_text}

-- what is asked of an input: the most bytes that it may have, and what is refused of one with more; which of its bytes are
-- the document; and the questions that are asked of the document, in this order
pub record Intake : Type 0 where
  pub limit : ℕ
  pub beyond : Refusal
  pub document_in : List ℕ → List ℕ
  pub questions : List Question

-- one document, and nothing behind it, of which the static checks are asked
abbrev pub one_document : Intake
one_document = record { limit = text_limit; beyond = TooLong; document_in = λ bytes. bytes; questions = static_checks }

-- an input that was accepted: its bytes, its document, and the script with which the document passes
pub record Accepted : Type 0 where
  pub bytes : List ℕ
  pub document : Document
  pub script : List Fault

-- what is done: a text is made without an input; or something is said of an input; or an input's document is run on the
-- machine, and its record is written too or not
pub data Deed : Type 0 where
  makes : List ℕ → Deed
  says : Intake → (Accepted → List ℕ) → Deed
  runs : Intake → Bool → Deed

-- each command's
abbrev pub deed_of : Command → Deed
deed_of Check = says one_document (λ input. check_text input.document)
deed_of Read = says one_document (λ input. read_text input.document input.script)
deed_of Lift = says one_document (λ input. lift_text input.document)
deed_of (Run workers with_record) = runs one_document with_record
deed_of (Make size) = makes (make_text size)

-- what the words ask for; none where they give no command
abbrev pub deed_in : List (List ℕ) → Option Deed
deed_in words = option_map deed_of (command_in words)

abbrev pub intake_of : Deed → Option Intake
intake_of (makes text) = None
intake_of (says intake text_of) = Some intake
intake_of (runs intake with_record) = Some intake

-- what the words ask of an input; none where no input is taken
abbrev pub intake_in : List (List ℕ) → Option Intake
intake_in words = option_and_then intake_of (deed_in words)
