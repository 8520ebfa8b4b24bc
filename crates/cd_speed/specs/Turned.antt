-- The passes that are timed: what each knows before its turns.
use Rattle.std.specs.Prelude.{◌≡◌, ℕ, ◌≤◌, IsSome, length}
use Rattle.cd_keep.specs.declared.keep_id.KeepId.{KeepId}
use Rattle.cd_keep.specs.PassModel.{PassModel, words_of}

-- it has at least so much room, and knows a block of 64 words under an id
pub record CanTurn (p : PassModel) (id : KeepId) (least : ℕ) : Type 0 where
  pub room : least ≤ p.room
  pub known : IsSome (p.known id)
  pub long : length (words_of p id) ≡ 64
