-- Worked cases: control words, and one block that goes from pass to pass.
use Rattle.std.proofs.Common.{◌≡◌, ◌+◌, ◌*◌, [], ◌∷◌, None, Some, refl, lit<}
use Rattle.cd_keep.specs.PassModel.{Gone}
use Rattle.cd_lease.specs.declared.view.View.{View}
use Rattle.cd_lease.specs.Control.{users_of, serial_of, IsOpen, last_serial, control_at, word_at}
use Rattle.cd_lease.specs.Views.{times, words_under, holds_in, fills_in, uses_in, spent_by, total}
use Rattle.cd_lease.specs.Steps.{newcomer, id_of, look_of, taking, longer, growing, holding, piece_of, leaving, missing, giving_back, without, joining}
use Rattle.cd_lease.specs.Trying.{keeping}
use Rattle.cd_lease.specs.Passes.{shown_by}

-- two users of the serial 5; the next serial
two_users : (users_of (5 * 16777216 + 2) ≡ 2) × (serial_of (5 * 16777216 + 2) ≡ 5) × (serial_of (5 * 16777216 + 16777217) ≡ 6)
two_users = (refl, refl, refl)

-- what is taken last has the last serial, and is not open
worn_out : serial_of (1099511627775 * 16777216) ≡ last_serial
worn_out = refl

is_open : IsOpen (7 * 16777216)
is_open = (refl, lit< tt)

-- the words of the third block
third_block : (control_at 2 ≡ 130) × (word_at 2 0 ≡ 131) × (word_at 2 63 ≡ 194) × (control_at 3 ≡ 195)
third_block = (refl, refl, refl, refl)

-- room for three; the words 1 and 2 are kept in block 0 under serial 1
abbrev first : View
first = keeping (newcomer [] 3) (look_of 0 0 ∷ []) (id_of 0 1) (1 ∷ 2 ∷ [])

-- word by word
kept_by_steps : first.holds ≡ (holding (growing (taking (newcomer [] 3) (id_of 0 1)) (longer (piece_of (id_of 0 1) []) 1)) (longer (piece_of (id_of 0 1) (1 ∷ [])) 2)).holds
kept_by_steps = refl

keeps_two_words : (words_under first.known (id_of 0 1) ≡ Some (1 ∷ 2 ∷ [])) × (times first.holds (id_of 0 1) ≡ 1) × (times first.holds (id_of 0 2) ≡ 0)
    × (first.room ≡ 2) × (first.takes ≡ 1) × (uses_in 0 first ≡ 1) × (uses_in 1 first ≡ 0) × (spent_by first ≡ 3)
keeps_two_words = (refl, refl, refl, refl, refl, refl, refl, refl)

-- while a block is filled it is used and not held
abbrev midway : View
midway = growing (taking (newcomer [] 3) (id_of 0 1)) (longer (piece_of (id_of 0 1) []) 1)

fills_alone : (uses_in 0 midway ≡ 1) × (holds_in 0 midway ≡ 0) × (fills_in 0 midway ≡ 1) × (words_under midway.known (id_of 0 1) ≡ None) × (spent_by midway ≡ 3)
fills_alone = (refl, refl, refl, refl, refl)

-- another pass is split off with room for one. It knows the id and does not hold it
abbrev other : View
other = newcomer first.known 1

abbrev rest : View
rest = without first 1

splits : (words_under other.known (id_of 0 1) ≡ Some (1 ∷ 2 ∷ [])) × (times other.holds (id_of 0 1) ≡ 0) × (total spent_by (rest ∷ other ∷ []) ≡ 3) × (total (uses_in 0) (rest ∷ other ∷ []) ≡ 1)
splits = (refl, refl, refl, refl)

-- the first gives up, and the block goes to serial 2. The other asks for serial 1, and finds 2
abbrev gave : View
gave = leaving rest (id_of 0 1)

gives_up : (gave.holds ≡ []) × (gave.room ≡ 2) × (gave.leaves ≡ 1) × (words_under gave.known (id_of 0 1) ≡ Some (1 ∷ 2 ∷ [])) × (uses_in 0 gave ≡ 0)
gives_up = (refl, refl, refl, refl, refl)

abbrev trying : View
trying = missing other (id_of 0 1) 2

tries : (uses_in 0 trying ≡ 1) × (holds_in 0 trying ≡ 0) × (trying.room ≡ 1) × (trying.takes ≡ 0) × (trying.shares ≡ 1)
tries = (refl, refl, refl, refl, refl)

abbrev after : View
after = giving_back trying

abbrev answer : Gone
answer = record { id = id_of 0 1; note = record { seen = 1; found = 2 } }

tried : (uses_in 0 after ≡ 0) × ((shown_by 3 7 after).gone ≡ answer ∷ []) × ((joining gave after).room ≡ 3) × ((shown_by 3 7 (joining gave after)).gone ≡ answer ∷ [])
tried = (refl, refl, refl, refl)
