-- The laws of later tries: what is present after them and with which words, and what stays. Each is a contract of `try_laws`.
use Rattle.std.specs.Prelude.{◌≡◌, ℕ, ◌≤◌, ◌++◌, false, List, [], ◌∷◌, length}
use Rattle.cd_base.specs.declared.place.Place.{Place}
use Rattle.cd_base.specs.Words.{Words, in_range}
use Rattle.cd_tree.specs.declared.domain.NodeId.{NodeId}
use Rattle.cd_tree.specs.declared.domain.Entry.{Entry}
use Rattle.cd_tree.specs.declared.domain.Domain.{Domain}
use Rattle.cd_tree.specs.Locality.{SameWords}
use Rattle.cd_tree.specs.Meaning.{in_entries}
use Rattle.cd_tree.specs.Reading.{refilled_from as told_refilled}
use Rattle.cd_field.specs.FieldModel.{FieldModel}
use Rattle.cd_tries.specs.declared.keep.Keep.{Keep}
use Rattle.cd_tries.specs.Fitting.{CanRun, ArePresentIn, HasWords, IsSound, StrikesWithin}
use Rattle.cd_tries.specs.Keeping.{Known, KeepsFit, keep_words}
use Rattle.cd_tries.specs.Refilling.{refilled_all}
use Rattle.cd_tries.specs.Running.{Trial, Means, tried_from, tried_again, tries_from}

-- each keep gives these words on its entry's range
abbrev pub EachGives : Known → Words → List Entry → List Keep → Type 0
EachGives known w [] keeps = Unit {0}
EachGives known w (entry ∷ entries) [] = ⊥
EachGives known w (entry ∷ entries) (keep ∷ keeps) =
    SameWords (in_range entry.range) (keep_words known entry.how keep) w × EachGives known w entries keeps

-- a machine after entries were put back: its record tells of each, and words and presence in the entries have changed, nothing else
pub record PutBack (known : Known) (entries : List Entry) (keeps : List Keep) (m n : FieldModel) : Type 0 where
  pub same : n ≡ record m { words = n.words; lost = n.lost; events = m.events ++ told_refilled m.node 0 entries }
  pub present : ArePresentIn entries n
  pub outside : (p : Place) → in_entries entries p ≡ false → (n.words p ≡ m.words p) × (n.lost p ≡ m.lost p)
  pub words : (w : Words) → EachGives known w entries keeps → SameWords (in_entries entries) n.words w

abbrev pub PuttingBack : Type 0
PuttingBack =
    (known : Known) (entries : List Entry) (keeps : List Keep) (m : FieldModel) → HasWords entries m → KeepsFit known entries keeps
    → PutBack known entries keeps m (refilled_all known entries keeps m)

-- what a machine keeps throughout the tries of a domain
pub record Stays (id : NodeId) (domain : Domain) (m n : FieldModel) : Type 0 where
  pub node : n.node ≡ id
  pub script : n.script ≡ m.script
  pub carved : n.carved ≡ m.carved
  pub words : HasWords domain.entries n
  pub outside : (p : Place) → in_entries domain.entries p ≡ false → (n.words p ≡ m.words p) × (n.lost p ≡ m.lost p)
  pub present : ArePresentIn domain.entries n

-- a machine that could run has all that still after the points of a try
abbrev pub PointsKeep : Type 0
PointsKeep =
    (id : NodeId) (domain : Domain) (halts point : ℕ) (m : FieldModel) → CanRun id domain m → point ≤ length domain.items
    → Stays id domain m (tried_from halts domain m point).field

-- and after the tries that follow
abbrev pub TriesKeep : Type 0
TriesKeep =
    (with : Means) (spare begin : ℕ) (t : Trial) → CanRun with.node with.domain t.field
    → KeepsFit with.known with.domain.entries with.keeps
    → Stays with.node with.domain t.field (tries_from with spare begin t).field

-- a later try makes all present
abbrev pub TryingAgainKeeps : Type 0
TryingAgainKeeps =
    (with : Means) (begin : ℕ) (m : FieldModel) → IsSound with.domain → HasWords with.domain.entries m
    → StrikesWithin with.node with.domain.entries m.script → KeepsFit with.known with.domain.entries with.keeps
    → Stays with.node with.domain m (tried_again with begin m).field
