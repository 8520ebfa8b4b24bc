-- The words of the table: 65 for each block, its control word first. The low 24 bits of a control word count who uses the
-- block, the upper 40 are its serial.
use Rattle.std.specs.Prelude.{◌≡◌, ℕ, ◌+◌, ◌*◌, ◌/◌, ◌%◌, ◌<◌, ◌≤◌, ◌⊎◌, List, length, slice_index}

abbrev pub users_of : ℕ → ℕ
users_of word = word % 16777216

abbrev pub serial_of : ℕ → ℕ
serial_of word = word / 16777216

-- a block of this serial is not taken again
abbrev pub last_serial : ℕ
last_serial = 1099511627775

-- a control word from which a block may be taken, and one from which it may not
abbrev pub IsOpen : ℕ → Type 0
IsOpen word = (users_of word ≡ 0) × (serial_of word < last_serial)

abbrev pub IsShut : ℕ → Type 0
IsShut word = (0 < users_of word) ⊎ (last_serial ≤ serial_of word)

-- the place of a block's control word, and of its words
abbrev pub control_at : ℕ → ℕ
control_at b = 65 * b

abbrev pub word_at : ℕ → ℕ → ℕ
word_at b i = 65 * b + 1 + i

abbrev pub users_in : List ℕ → ℕ → ℕ
users_in ws b = users_of (slice_index ws (control_at b))

abbrev pub serial_in : List ℕ → ℕ → ℕ
serial_in ws b = serial_of (slice_index ws (control_at b))

abbrev pub word_in : List ℕ → ℕ → ℕ → ℕ
word_in ws b i = slice_index ws (word_at b i)

-- the block begins with these words
pub record Begins (ws : List ℕ) (b : ℕ) (piece : List ℕ) : Type 0 where
  pub each : (i : ℕ) → i < length piece → word_in ws b i ≡ slice_index piece i
