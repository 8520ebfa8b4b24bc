-- The laws of the checks: what holds of them for every document. Each is a contract of `laws`.
use Rattle.std.specs.Prelude.{◌≡◌, ◌↔◌, ℕ, List, Option}
use Rattle.cd_tree.specs.declared.document.Document.{Document}
use Rattle.cd_tree.specs.declared.document.Fault.{Fault}
use Rattle.cd_tree.specs.declared.refusal.Refusal.{Refusal}
use Rattle.cd_tree.specs.TreeModel.{IsTree}
use Rattle.cd_check.specs.Checking.{Question, FirstRefusalOf, FirstRefusal, Passes}

-- two first refusals of a document by the same questions, or a refusal and none, are the same
abbrev pub FirstRefusalIsOne : Type 0
FirstRefusalIsOne =
    (questions : List Question) (document : Document) → IsTree document.tree → (one other : Option Refusal)
    → FirstRefusalOf questions document one → FirstRefusalOf questions document other → one ≡ other

-- two scripts with which a document passes are the same
abbrev pub ScriptIsOne : Type 0
ScriptIsOne =
    (document : Document) → IsTree document.tree → (one other : List Fault) → Passes document one → Passes document other → one ≡ other

-- the document as it would be in another version of the language
abbrev pub with_version : Document → ℕ → Document
with_version document version = record document { version = version }

-- another version leaves the first refusal as it is
abbrev pub VersionChangesNoRefusal : Type 0
VersionChangesNoRefusal =
    (document : Document) (version : ℕ) (answer : Option Refusal)
    → FirstRefusal document answer ↔ FirstRefusal (with_version document version) answer

-- and the document passes with the same scripts
abbrev pub VersionChangesNoPassing : Type 0
VersionChangesNoPassing =
    (document : Document) (version : ℕ) (script : List Fault) → Passes document script ↔ Passes (with_version document version) script
