-- What each kind of step changes in the stepping pass's view, and what it tells.
use Rattle.std.specs.Prelude.{◌≡◌, ◌≢◌, ℕ, ◌+◌, ◌-◌, ◌<◌, List, [], ◌∷◌, ◌++◌, length, None, Some, slice_index}
use Rattle.atomic_table.specs.Table.{Me, Step}
use Rattle.cd_keep.specs.declared.keep_id.KeepId.{KeepId}
use Rattle.cd_lease.specs.declared.view.Piece.{Piece}
use Rattle.cd_lease.specs.declared.view.Miss.{Miss}
use Rattle.cd_lease.specs.declared.view.Look.{Look}
use Rattle.cd_lease.specs.declared.view.View.{View}
use Rattle.cd_lease.specs.Control.{serial_of, control_at, word_at}
use Rattle.cd_lease.specs.Views.{times, one_out, words_under}

-- a view, and no slot
abbrev pub Sat : Type 0
Sat = Me (Unit {0}) View

abbrev pub with_view : Sat → View → Sat
with_view m v = (v, m.1)

abbrev pub bare_sat : View → Sat
bare_sat v = (v, [])

abbrev pub Tells : Type 1
Tells = Step (Unit {0}) → Sat → ℕ → Sat → Type 0

-- a pass that has just been opened, or the view of one that was taken back, with no room
abbrev pub newcomer : List Piece → ℕ → View
newcomer pieces n = record { holds = []; known = pieces; filling = None; trying = None; room = n; gone = []; looks = []; takes = 0; shares = 0; leaves = 0 }

abbrev pub id_of : ℕ → ℕ → KeepId
id_of b n = record { block = b; serial = n }

abbrev pub piece_of : KeepId → List ℕ → Piece
piece_of id piece = record { id = id; words = piece }

abbrev pub look_of : ℕ → ℕ → Look
look_of b word = record { block = b; word = word }

-- control words that were met
abbrev pub met : View → List Look → View
met v ls = record v { looks = v.looks ++ ls }

-- look: the word met
abbrev pub Looks : Tells
Looks st m n m' = (b : ℕ) → st.word ≡ control_at b → m' ≡ (met m.0 (look_of b n ∷ []), m.1)

-- take: a filling begins
abbrev pub taking : View → KeepId → View
taking v id = record v { filling = Some (piece_of id []); room = v.room - 1; takes = v.takes + 1 }

abbrev pub next_id : ℕ → ℕ → KeepId
next_id b word = id_of b (serial_of word + 1)

abbrev pub Takes : Tells
Takes st m n m' = (b : ℕ) → st.word ≡ control_at b
    → (n ≡ st.first → (m' ≡ (taking m.0 (next_id b n), m.1)) × (words_under m.0.known (next_id b n) ≡ None))
    × (n ≢ st.first → m' ≡ (met m.0 (look_of b n ∷ []), m.1))

-- write: the filling grows; at its last word it becomes a hold
abbrev pub longer : Piece → ℕ → Piece
longer p word = record p { words = p.words ++ word ∷ [] }

abbrev pub growing : View → Piece → View
growing v p = record v { filling = Some p }

abbrev pub Writes : Tells
Writes st m n m' = (p : Piece) → m.0.filling ≡ Some p → st.word ≡ word_at p.id.block (length p.words) → m' ≡ (growing m.0 (longer p n), m.1)

abbrev pub holding : View → Piece → View
holding v p = record v { filling = None; holds = p.id ∷ v.holds; known = p ∷ v.known }

abbrev pub Ends : Tells
Ends st m n m' = (p : Piece) → m.0.filling ≡ Some p → st.word ≡ word_at p.id.block (length p.words) → m' ≡ (holding m.0 (longer p n), m.1)

-- read: a word of a hold is the word that was kept
abbrev pub Reads : Tells
Reads st m n m' = (m' ≡ m)
    × ((id : KeepId) (piece : List ℕ) (i : ℕ) → 0 < times m.0.holds id → words_under m.0.known id ≡ Some piece → i < length piece
    → st.word ≡ word_at id.block i → n ≡ slice_index piece i)

-- leave: a hold ends; its id stays known
abbrev pub leaving : View → KeepId → View
leaving v id = record v { holds = one_out id v.holds; room = v.room + 1; leaves = v.leaves + 1 }

abbrev pub Leaves : Tells
Leaves st m n m' = (id : KeepId) → 0 < times m.0.holds id → st.word ≡ control_at id.block → m' ≡ (leaving m.0 id, m.1)

-- share: a hold where the serial found is the one asked for, else a try and a gone answer
abbrev pub sharing : View → KeepId → View
sharing v id = record v { holds = id ∷ v.holds; room = v.room - 1; shares = v.shares + 1 }

abbrev pub miss_of : KeepId → ℕ → Miss
miss_of id n = record { id = id; found = n }

abbrev pub missing : View → KeepId → ℕ → View
missing v id n = record v { trying = Some id.block; gone = v.gone ++ miss_of id n ∷ []; shares = v.shares + 1 }

abbrev pub Shares : KeepId → Tells
Shares id st m n m' = (serial_of n ≡ id.serial → m' ≡ (sharing m.0 id, m.1))
    × (serial_of n ≢ id.serial → (id.serial < serial_of n) × (m' ≡ (missing m.0 id (serial_of n), m.1)))

-- leave: a try ends
abbrev pub giving_back : View → View
giving_back v = record v { trying = None; leaves = v.leaves + 1 }

abbrev pub Returns : Tells
Returns st m n m' = (b : ℕ) → m.0.trying ≡ Some b → st.word ≡ control_at b → m' ≡ (giving_back m.0, m.1)

-- split: the new view knows what this one knows, and gets its room
abbrev pub without : View → ℕ → View
without v n = record v { room = v.room - n }

-- join: the child's room, gone answers and counts come here
abbrev pub joining : View → View → View
joining v w = record v {
  room = v.room + w.room;
  gone = v.gone ++ w.gone;
  takes = v.takes + w.takes;
  shares = v.shares + w.shares;
  leaves = v.leaves + w.leaves;
}
