-- What the tests of preserving run on: a board of 200 words that a pass keeps, and an entry that is a part of it.
use Rattle.std.specs.Prelude.{◌≡◌, ◌+◌, ◌<◌, ◌≤◌, true, List, [], ◌∷◌, ◌++◌, length, Option, None, Some}
use Rattle.cd_base.specs.declared.place.Place.{Place}
use Rattle.cd_base.specs.declared.place.Range.{Range}
use Rattle.cd_base.specs.Words.{in_range}
use Rattle.cd_tree.specs.declared.domain.Entry.{Entry}
use Rattle.cd_field.specs.FieldModel.{FieldModel, IsPresent}
use Rattle.cd_keep.specs.declared.keep_id.KeepId.{KeepId}
use Rattle.cd_keep.specs.PassModel.{PassModel, Gone}
use Rattle.cd_tries.specs.declared.keep.Keep.{Keep}
use Rattle.cd_tries.specs.declared.keep.Pieces.{Pieces}
use Rattle.cd_tries.specs.Keeping.{Cover, KeepFits, KeepsFit, HoldsThese, all_ids, keep_ids}

abbrev pub board : Range
board = record { region = 0; low = 0; high = 200 }

-- the board's words are there
pub record HasBoard (m : FieldModel) : Type 0 where
  pub each : (p : Place) → in_range board p ≡ true → IsPresent m p

-- a range of the board with a place
pub record IsOnBoard (r : Range) : Type 0 where
  pub region : r.region ≡ 0
  pub some : r.low < r.high
  pub high : r.high ≤ 200

-- a pass of nine holds keeps the board, and nothing else
pub record HasLink (link : Pieces) (p : PassModel) : Type 0 where
  pub covers : Cover p.known link board
  pub holds : HoldsThese p link.ids
  pub room : p.room + length link.ids ≡ 9
  pub count : length link.ids ≡ 4

-- it keeps an entry besides
pub record HasPart (entry : Entry) (link : Pieces) (keep : Keep) (p : PassModel) : Type 0 where
  pub fits : KeepFits p.known entry keep
  pub holds : HoldsThese p (link.ids ++ keep_ids keep)
  pub room : p.room + length (link.ids ++ keep_ids keep) ≡ 9

-- it keeps the entry alone
pub record IsKept (entry : Entry) (keeps : List Keep) (p : PassModel) : Type 0 where
  pub fit : KeepsFit p.known (entry ∷ []) keeps
  pub holds : HoldsThese p (all_ids keeps)
  pub room : p.room + length (all_ids keeps) ≡ 9

-- a pass that has answered Gone for this id, or not yet
abbrev pub gone_of : Option KeepId → List Gone
gone_of None = []
gone_of (Some id) = record { id = id; note = record { seen = 1; found = 2 } } ∷ []

abbrev pub lapsing : PassModel → Option KeepId → PassModel
lapsing p answered = record p { gone = gone_of answered }

-- more than half of the room at opening is here
abbrev pub IsMain : PassModel → Type 0
IsMain p = p.most < (p.held + p.room) + (p.held + p.room)
