-- The law that canonical texts are read back: what each is read as.
use Rattle.std.specs.Prelude.{◌≡◌, ℕ, List, Ok}
use Rattle.cd_tree.specs.declared.document.Document.{Document}
use Rattle.cd_parse.specs.Parsing.{parse}
use Rattle.cd_print.specs.Canonical.{canonical, lifted}

-- the canonical text of a document that a text is read as is read as the document
abbrev pub ReadsBack : Type 0
ReadsBack = (bytes : List ℕ) (document : Document) → parse bytes ≡ Ok document → parse (canonical document) ≡ Ok document

-- the same of the document in version 2
abbrev pub LiftedReadsBack : Type 0
LiftedReadsBack =
    (bytes : List ℕ) (document : Document) → parse bytes ≡ Ok document → parse (canonical (lifted document)) ≡ Ok (lifted document)
