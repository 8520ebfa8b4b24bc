-- The texts of the actions, and what a run of a document leaves on a machine.
use Rattle.std.specs.Prelude.{◌≡◌, ℕ, ◌^◌, ◌<◌, ◌++◌, Bool, List, Option, sum}
use Rattle.cd_base.specs.Words.{Words}
use Rattle.cd_tree.specs.declared.document.Document.{Document}
use Rattle.cd_tree.specs.declared.document.Fault.{Fault}
use Rattle.cd_tree.specs.declared.event.Cause.{Cause}
use Rattle.cd_tree.specs.declared.event.Event.{Event}
use Rattle.cd_tree.specs.Domains.{root_of}
use Rattle.cd_tree.specs.Legal.{Legal}
use Rattle.cd_tree.specs.Meaning.{initial, node_need}
use Rattle.cd_tree.specs.TreeModel.{TreeModel}
use Rattle.cd_tree.specs.Record.{reading, record_of}
use Rattle.cd_print.specs.Canonical.{canonical, lifted}
use Rattle.cd_field.specs.FieldModel.{FieldModel, nowhere}
use Rattle.cd_reading.specs.Through.{begins_in, cause_in}
use Rattle.cd_pool.specs.Counts.{counted}
use Rattle.cd_report.specs.Reports.{last_words, report_of}
use Rattle.cd_report.specs.Texts.{reading_text, accepted_line}

-- ---- the texts of the actions

-- the blocks that a run of a program needs
abbrev pub need_of : TreeModel → ℕ
need_of tree = node_need (root_of tree.domains)

-- the text of `check`: a line of counts, then the canonical text
unfoldable pub check_text : Document → List ℕ
check_text document = accepted_line document (need_of document.tree) ++ canonical document

-- the text of `read`, from the one-thread reading
unfoldable pub read_text : Document → List Fault → List ℕ
read_text document script = reading_text document.tree (begins_in document.tree script) (cause_in document.tree script)

-- the text of `lift`
unfoldable pub lift_text : Document → List ℕ
lift_text document = canonical (lifted document)

-- ---- runs

-- the words with which a document's regions end under a script: the fault-free program's or, where the script exhausts the root, the
-- initial ones
abbrev pub words_at_end : Document → List Fault → Words
words_at_end document script = last_words document (reading document.tree script).answer

-- the text of `run` with its record or without, from a machine's own events
abbrev pub ran_text : Bool → Document → List Fault → List Event → List ℕ
ran_text with_record document script events = report_of with_record document (reading document.tree script) events

-- a machine on which a document has run: its record is legal for the reading's, with the regions' initial words as those that
-- were loaded; the regions have their last words; nothing is lost
pub record HoldsRun (document : Document) (script : List Fault) (m : FieldModel) : Type 0 where
  pub legal : Legal document.tree (initial document.regions) m.events (record_of document.tree script)
  pub words : m.words ≡ words_at_end document script
  pub present : m.lost ≡ nowhere

-- the same with what the run told of itself: how often each domain began, and why the root escalated, where it did
pub record HasRun (document : Document) (script : List Fault) (m : FieldModel) (begins : List ℕ) (cause : Option Cause) : Type 0 where
  pub holds : HoldsRun document script m
  pub counts : begins ≡ begins_in document.tree script
  pub total : sum begins < 2 ^ 64
  pub ends : cause ≡ cause_in document.tree script

-- an engine's count before and after a run: it rose by the begins of the one-thread reading, of all domains together, or stands
-- at its last value
abbrev pub IsCounted : Document → List Fault → ℕ → ℕ → Type 0
IsCounted document script was now = now ≡ counted was (sum (begins_in document.tree script))
