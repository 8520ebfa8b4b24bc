-- What contracts see of a pass over leases.
use Rattle.std.specs.Prelude.{◌≡◌, ℕ, ◌+◌, ◌≤◌, ◌<◌, map, length, IsSome}
use Rattle.cd_keep.specs.declared.keep_id.KeepId.{KeepId}
use Rattle.cd_keep.specs.PassModel.{PassModel, Gone, AreShort}
use Rattle.cd_lease.specs.declared.rule.Size.{Size}
use Rattle.cd_lease.specs.declared.view.Miss.{Miss}
use Rattle.cd_lease.specs.declared.view.View.{View}
use Rattle.cd_lease.specs.Views.{times, words_under, one_there}

abbrev pub gone_of : Miss → Gone
gone_of g = record { id = g.id; note = record { seen = g.id.serial; found = g.found } }

-- a view as that of a pass of a store, with the room at opening
abbrev pub shown_by : ℕ → ℕ → View → PassModel
shown_by most store v = record {
  known = words_under v.known;
  holds = times v.holds;
  held = length v.holds;
  room = v.room;
  most = most;
  store = store;
  gone = map gone_of v.gone;
}

-- what is so of a pass between two calls
pub record Rests (size : Size) (v : View) : Type 0 where
  pub idle : one_there v.filling + one_there v.trying ≡ 0
  pub within : length v.holds + v.room ≤ size.most
  pub held : (id : KeepId) → 0 < times v.holds id → IsSome (words_under v.known id)
  pub block : (id : KeepId) → IsSome (words_under v.known id) → id.block < size.blocks
  pub short : AreShort (words_under v.known)

-- the size of a table that can be opened
pub record IsSize (size : Size) : Type 0 where
  pub some : 0 < size.blocks
  pub few : size.blocks ≤ 65536
  pub most : size.most ≤ 65536
