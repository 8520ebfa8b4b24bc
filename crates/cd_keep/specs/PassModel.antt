-- A pass as contracts see it, and what each call does to it.
use Rattle.std.specs.Prelude.{◌≡◌, ℕ, ◌+◌, ◌-◌, ◌<◌, ◌≤◌, Bool, ◌&&◌, ◌==◌, List, [], ◌∷◌, ◌++◌, length, Option, None, Some, unwrap_or, if◌then◌else◌}
use Rattle.cd_keep.specs.declared.keep_id.KeepId.{KeepId}
use Rattle.cd_keep.specs.declared.gone_note.GoneNote.{GoneNote}

-- a gone answer: the id asked for, and the note given
pub record Gone : Type 0 where
  pub id : KeepId
  pub note : GoneNote

-- the words of each id that is held or was seen, how often each id is held and how many holds that is, how many more may
-- be held, the room that the first pass was opened with, the number of the store, and the gone answers in order
pub record PassModel : Type 0 where
  pub known : KeepId → Option (List ℕ)
  pub holds : KeepId → ℕ
  pub held : ℕ
  pub room : ℕ
  pub most : ℕ
  pub store : ℕ
  pub gone : List Gone

abbrev pub same_id : KeepId → KeepId → Bool
same_id p q = (p.block == q.block) && (p.serial == q.serial)

-- the words of an id, none where it is neither held nor seen
abbrev pub words_of : PassModel → KeepId → List ℕ
words_of p id = unwrap_or (p.known id) []

-- the words that one keep takes: 1 to 64 of them
pub record IsPiece (words : List ℕ) : Type 0 where
  pub some : 0 < length words
  pub few : length words ≤ 64

-- no words of an id are more than one keep takes
pub record AreShort (known : KeepId → Option (List ℕ)) : Type 0 where
  pub each : (id : KeepId) → length (unwrap_or (known id) []) ≤ 64

abbrev pub none_known : KeepId → Option (List ℕ)
none_known = λ _. None

abbrev pub none_held : KeepId → ℕ
none_held = λ _. 0

-- one id more is known, with these words
abbrev pub known_with : (KeepId → Option (List ℕ)) → KeepId → List ℕ → KeepId → Option (List ℕ)
known_with known id words = λ q. if same_id id q then Some words else known q

-- an id held once more
abbrev pub one_more : (KeepId → ℕ) → KeepId → KeepId → ℕ
one_more holds id = λ q. if same_id id q then holds q + 1 else holds q

-- an id held once less
abbrev pub one_less : (KeepId → ℕ) → KeepId → KeepId → ℕ
one_less holds id = λ q. if same_id id q then holds q - 1 else holds q

-- a pass that has just been opened
abbrev pub opened : ℕ → ℕ → PassModel
opened store room = record { known = none_known; holds = none_held; held = 0; room = room; most = room; store = store; gone = [] }

-- words kept under a new id
abbrev pub kept : PassModel → KeepId → List ℕ → PassModel
kept p id words = record p {
  known = known_with p.known id words;
  holds = one_more p.holds id;
  held = p.held + 1;
  room = p.room - 1;
}

-- a known id held once more
abbrev pub shared : PassModel → KeepId → PassModel
shared p id = record p { holds = one_more p.holds id; held = p.held + 1; room = p.room - 1 }

-- a gone answer given
abbrev pub lapsed : PassModel → KeepId → GoneNote → PassModel
lapsed p id note = let answer : Gone = record { id = id; note = note } in record p { gone = p.gone ++ answer ∷ [] }

-- an id held once less; it stays known
abbrev pub gave_up : PassModel → KeepId → PassModel
gave_up p id = record p { holds = one_less p.holds id; held = p.held - 1; room = p.room + 1 }

-- the pass that is split off
abbrev pub child_of : PassModel → ℕ → PassModel
child_of p room = record p { holds = none_held; held = 0; room = room; gone = [] }

-- what is left where a pass was split off
abbrev pub without : PassModel → ℕ → PassModel
without p room = record p { room = p.room - room }

-- a pass taken back
abbrev pub joined : PassModel → PassModel → PassModel
joined p child = record p { room = p.room + child.room; gone = p.gone ++ child.gone }

pub record HoldsNothing (p : PassModel) : Type 0 where
  pub none : (id : KeepId) → p.holds id ≡ 0
  pub held : p.held ≡ 0

-- when a pass may be taken back
pub record CanJoin (p child : PassModel) : Type 0 where
  pub store : child.store ≡ p.store
  pub nothing : HoldsNothing child
  pub few : p.held + p.room + child.room ≤ p.most
