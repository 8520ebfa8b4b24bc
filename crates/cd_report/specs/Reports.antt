-- The report of a document's run: of the document, of what its reading ends with and counts, and of the machine's own events.
use Rattle.std.specs.Prelude.{ℕ, Bool, List, length, map}
use Rattle.cd_base.specs.Words.{Words}
use Rattle.cd_tree.specs.declared.document.Document.{Document}
use Rattle.cd_tree.specs.declared.event.Event.{Event}
use Rattle.cd_tree.specs.Domains.{root_of, numbers_from}
use Rattle.cd_tree.specs.Meaning.{initial, node_meaning}
use Rattle.cd_tree.specs.Reading.{Told, NodeEnd, Done, Escalated}
use Rattle.cd_tree.specs.Record.{cause_of}
use Rattle.cd_report.specs.Records.{run_text}

-- the words that the regions end with: the program's where the reading is done; the initial ones where it escalates the root
abbrev pub last_words : Document → NodeEnd → Words
last_words document (Done leak) = node_meaning (root_of document.tree.domains) (initial document.regions)
last_words document (Escalated cause over) = initial document.regions

-- a reading of a document says what becomes of the run, which words the regions end with, and how often each domain begins; the
-- events are those that the machine has on record, which may fall back where the reading's do not
unfoldable pub report_of : Bool → Document → Told NodeEnd → List Event → List ℕ
report_of with_record document reading events =
    run_text with_record document.tree document.regions (last_words document reading.answer) events
    (map reading.counts (numbers_from 0 (length document.tree.domains))) (cause_of document.tree.domains reading.answer)
