-- A lifted document: neither the checks nor a run look at the version.
use Rattle.std.proofs.Common.{◌≡◌, ◌↔◌, Bool, List, refl, ap, sym, ◌∙◌}
use Rattle.cd_tree.specs.declared.document.Document.{Document}
use Rattle.cd_tree.specs.declared.document.Fault.{Fault}
use Rattle.cd_base.specs.Words.{Words}
use Rattle.cd_tree.specs.Reading.{NodeEnd, Done, Escalated}
use Rattle.cd_tree.specs.Record.{reading}
use Rattle.cd_check.specs.Checking.{Passes}
use Rattle.cd_print.specs.Canonical.{lifted}
use Rattle.cd_field.specs.FieldModel.{FieldModel}
use Rattle.cd_reading.specs.Through.{begins_in, cause_in}
use Rattle.cd_report.specs.Records.{run_text}
use Rattle.cd_report.specs.Reports.{last_words, report_of}
use Rattle.cd_app.specs.Running.{HoldsRun, ran_text}

-- both end with the same words
same_words : (document : Document) (end : NodeEnd) → last_words (lifted document) end ≡ last_words document end
same_words document (Done leak) = refl
same_words document (Escalated cause over) = refl

pub lifted_passes_alike : (document : Document) (script : List Fault) → Passes (lifted document) script ↔ Passes document script
lifted_passes_alike document script = (
  λ passes. record { checked = passes.checked; found = passes.found; disjoint = passes.disjoint; accepted = passes.accepted },
  λ passes. record { checked = passes.checked; found = passes.found; disjoint = passes.disjoint; accepted = passes.accepted },
)

pub lifted_runs_alike : (document : Document) (script : List Fault) (m : FieldModel) (with_record : Bool)
    → (HoldsRun (lifted document) script m ↔ HoldsRun document script m)
    × (ran_text with_record (lifted document) script m.events ≡ ran_text with_record document script m.events)
unfolding report_of
lifted_runs_alike document script m with_record = (
  (
    λ run. record { legal = run.legal; words = run.words ∙ same_words document (reading document.tree script).answer; present = run.present },
    λ run. record { legal = run.legal; words = run.words ∙ sym (same_words document (reading document.tree script).answer); present = run.present },
  ),
  ap (λ (words : Words). run_text with_record document.tree document.regions words m.events (begins_in document.tree script) (cause_in document.tree script))
      (same_words document (reading document.tree script).answer),
)
