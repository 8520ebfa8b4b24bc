-- The machine of the trials: its places, and what holds before each call.
use Rattle.std.specs.Prelude.{◌≡◌, ℕ, ◌+◌, true, false, List, [], ◌∷◌, All, IsSome}
use Rattle.cd_base.specs.declared.place.Place.{Place}
use Rattle.cd_base.specs.declared.place.Range.{Range}
use Rattle.cd_base.specs.Words.{in_ranges}
use Rattle.cd_tree.specs.declared.document.Fault.{Fault}
use Rattle.cd_field.specs.FieldModel.{FieldModel, IsPresent}

-- a hundred words and two
abbrev pub board : List Range
board = record { region = 0; low = 0; high = 100 } ∷ record { region = 1; low = 0; high = 2 } ∷ []

-- a fault strikes on the board
abbrev pub IsAimed : Fault → Type 0
IsAimed fault = in_ranges board fault.place ≡ true

-- the board's words are all present, and the script strikes on the board
pub record IsReady (m : FieldModel) : Type 0 where
  pub each : (p : Place) → in_ranges board p ≡ true → IsPresent m p
  pub aimed : All IsAimed m.script

-- one word of the first region
abbrev pub one_word : ℕ → List Range
one_word index = record { region = 0; low = index; high = index + 1 } ∷ []

-- the same script strikes, and the same places were carved to be written
pub record IsSame (m n : FieldModel) : Type 0 where
  pub script : n.script ≡ m.script
  pub carved : n.carved ≡ m.carved

-- a machine of which one word is away, as a part's to write, and the rest is ready
pub record HasLent (m : FieldModel) (index : ℕ) : Type 0 where
  pub known : (p : Place) → in_ranges board p ≡ true → IsSome (m.words p)
  pub here : (p : Place) → in_ranges board p ≡ true → in_ranges (one_word index) p ≡ false → m.lost p ≡ false
  pub away : (p : Place) → in_ranges (one_word index) p ≡ true → m.lost p ≡ true
  pub aimed : All IsAimed m.script

-- a part that may come back to a machine, to which it brings one word
pub record MayComeBack (m part : FieldModel) (index : ℕ) : Type 0 where
  pub script : part.script ≡ m.script
  pub carved : (p : Place) → in_ranges part.carved p ≡ in_ranges (one_word index) p
