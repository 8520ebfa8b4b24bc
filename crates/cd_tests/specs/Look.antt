-- When a machine can be looked at: a text's first region has four words, and a run of it came to its end.
use Rattle.std.specs.Prelude.{◌≡◌, ℕ, ◌<◌, Bool, List, [], Option, None, Some, Result, Ok, Err, slice_get, codes}
use Rattle.cd_base.specs.declared.pattern.Pattern.TheVariants.{Const}
use Rattle.cd_tree.specs.declared.document.Region.{Region}
use Rattle.cd_tree.specs.declared.document.Document.{Document}
use Rattle.cd_tree.specs.declared.refusal.Refusal.{Refusal}
use Rattle.cd_parse.specs.Parsing.{parse}
use Rattle.cd_field.specs.FieldModel.{FieldModel, IsPresent}
use Rattle.cd_app.specs.Deeds.{one_document, runs, deed_in}

-- the regions of a text that is read
abbrev pub regions_in : Result Document Refusal → List Region
regions_in (Ok document) = document.regions
regions_in (Err refusal) = []

-- the region `y` with four words 0
abbrev pub four_words : Region
four_words = record { name = codes "y"; length = 4; pattern = Const 0 }

-- a document whose first region is `y` with four words 0
abbrev pub HasFourWords : List ℕ → Type 0
HasFourWords text = slice_get (regions_in (parse text)) 0 ≡ Some four_words

-- the same of what a source has left
abbrev pub HasFourWordsLeft : Option (List ℕ) → Type 0
HasFourWordsLeft None = ⊥
HasFourWordsLeft (Some text) = HasFourWords text

-- the first four words of the first region are in the machine
pub record FourArePresent (m : FieldModel) : Type 0 where
  pub each : (i : ℕ) → i < 4 → IsPresent m (record { region = 0; index = i })

-- the words ask for a run, with its record or without
abbrev pub IsRun : List (List ℕ) → Bool → Type 0
IsRun words with_record = deed_in words ≡ Some (runs one_document with_record)
