-- For tests: when a pass can turn, and what it is after a turn in which it gave up all that it came to hold.
use Rattle.std.specs.Prelude.{◌≡◌, ℕ, ◌<◌, List, [], ◌∷◌, Some}
use Rattle.cd_keep.specs.declared.keep_id.KeepId.{KeepId}
use Rattle.cd_keep.specs.PassModel.{PassModel, HoldsNothing}

-- it knows the word 7 under an id, has room and holds nothing
pub record CanTurn (p : PassModel) (id : KeepId) : Type 0 where
  pub known : p.known id ≡ Some (7 ∷ [])
  pub room : 0 < p.room
  pub nothing : HoldsNothing p

-- it has the room that it had, holds nothing, and knows what it knew
pub record IsSpare (p q : PassModel) : Type 0 where
  pub room : q.room ≡ p.room
  pub most : q.most ≡ p.most
  pub store : q.store ≡ p.store
  pub nothing : HoldsNothing q
  pub known : (id : KeepId) (piece : List ℕ) → p.known id ≡ Some piece → q.known id ≡ Some piece
