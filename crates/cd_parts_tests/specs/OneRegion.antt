-- The words that the tests run on: one region, of which an operation's ranges are parts.
use Rattle.std.specs.Prelude.{◌≡◌, ◌≤◌}
use Rattle.cd_base.specs.declared.place.Range.{Range}
use Rattle.cd_field.specs.FieldModel.{FieldModel}
use Rattle.cd_kernel.specs.Computing.{IsHere}

abbrev pub board : Range
board = record { region = 0; low = 0; high = 64 }

-- the board's words are there
abbrev pub HasBoard : FieldModel → Type 0
HasBoard m = IsHere m board

-- a range of the board
pub record IsOnBoard (r : Range) : Type 0 where
  pub region : r.region ≡ 0
  pub high : r.high ≤ 64
