-- No check looks at the version of the language.
use Rattle.std.proofs.Common.{◌↔◌, ℕ, List}
use Rattle.cd_tree.specs.declared.document.Document.{Document}
use Rattle.cd_tree.specs.declared.document.Fault.{Fault}
use Rattle.cd_check.specs.Checking.{Passes}
use Rattle.cd_check.specs.Laws.{with_version}

pub passes_in_version : (document : Document) (version : ℕ) (script : List Fault)
    → Passes document script ↔ Passes (with_version document version) script
passes_in_version document version script = (
  λ passes. record { checked = passes.checked; found = passes.found; disjoint = passes.disjoint; accepted = passes.accepted },
  λ passes. record { checked = passes.checked; found = passes.found; disjoint = passes.disjoint; accepted = passes.accepted },
)
