-- What the tests of tries run: a domain with one entry of four words and one operation on them.
use Rattle.std.specs.Prelude.{◌≡◌, ◌<◌, true, List, [], ◌∷◌, IsSome, All}
use Rattle.cd_base.specs.declared.place.Place.{Place}
use Rattle.cd_base.specs.declared.place.Range.{Range}
use Rattle.cd_base.specs.Words.{Words, in_range}
use Rattle.cd_tree.specs.declared.document.Fault.{Fault}
use Rattle.cd_tree.specs.declared.domain.Domain.{Domain}
use Rattle.cd_tree.specs.declared.domain.Entry.{Entry}
use Rattle.cd_tree.specs.declared.domain.How.TheVariants as how
use Rattle.cd_tree.specs.declared.domain.Item.TheVariants.{Run}
use Rattle.cd_tree.specs.declared.operation.Op.TheVariants.{Fill}
use Rattle.cd_field.specs.FieldModel.{FieldModel, IsPresent}
use Rattle.cd_keep.specs.declared.keep_id.KeepId.{KeepId}
use Rattle.cd_keep.specs.PassModel.{PassModel, opened, kept}
use Rattle.cd_tries.specs.declared.keep.Keep.{Keep}
use Rattle.cd_tries.specs.declared.keep.Keep.TheVariants.{Copied}

abbrev pub sample : Range
sample = record { region = 0; low = 0; high = 4 }

abbrev pub sample_entries : List Entry
sample_entries = record { range = sample; how = how.Copy } ∷ []

pub record IsSample (domain : Domain) : Type 0 where
  pub entries : domain.entries ≡ sample_entries
  pub items : domain.items ≡ Run (Fill sample 7) ∷ []

abbrev pub HasSample : Words → Type 0
HasSample w = (p : Place) → in_range sample p ≡ true → IsSome (w p)

abbrev pub SampleIsHere : FieldModel → Type 0
SampleIsHere m = (p : Place) → in_range sample p ≡ true → IsPresent m p

-- faults that strike the first word
abbrev pub StrikesSample : List Fault → Type 0
StrikesSample faults = All (λ (fault : Fault). (fault.place ≡ record { region = 0; index = 0 }) × (fault.kind.0 < 16)) faults

-- four words kept in the only room of a pass
abbrev pub sample_pass : KeepId → PassModel
sample_pass id = kept (opened 0 1) id (5 ∷ 5 ∷ 5 ∷ 5 ∷ [])

abbrev pub sample_keeps : KeepId → List Keep
sample_keeps id = Copied (record { begin = 0; end = 4; ids = id ∷ [] }) ∷ []
