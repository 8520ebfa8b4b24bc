-- The machine after an operation, and what its parts ask of a machine.
use Rattle.std.specs.Prelude.{◌≡◌, ℕ, ◌+◌, ◌-◌, ◌*◌, ◌^◌, max, true, ◌&&◌, nat_le, nat_lt, if◌then◌else◌}
use Rattle.cd_base.specs.declared.place.Place.{Place}
use Rattle.cd_base.specs.declared.place.Range.{Range}
use Rattle.cd_base.specs.Words.{Words, in_range, word_of}
use Rattle.cd_tree.specs.declared.operation.Op.{Op}
use Rattle.cd_tree.specs.declared.operation.Op.TheVariants.{Scan}
use Rattle.cd_tree.specs.Operations.{greatest, length_of, nth_word, op_meaning, total}
use Rattle.cd_field.specs.FieldModel.{FieldModel, IsPresent}
use Rattle.cd_kernel.specs.declared.totals.Gathering.{Gathering}
use Rattle.cd_kernel.specs.declared.totals.Gathering.TheVariants.{Adding, Multiplying, Comparing}
use Rattle.cd_kernel.specs.declared.lists.Pairing.{Pairing}
use Rattle.cd_kernel.specs.declared.lists.Pairing.TheVariants.{Plus, Minus, Times, Multiple}

-- the machine after an operation: its words have changed, and nothing else
abbrev pub computed : FieldModel → Op → FieldModel
computed m op = record m { words = op_meaning op m.words }

-- the i-th place of a range
abbrev pub nth_place : Range → ℕ → Place
nth_place r i = record { region = r.region; index = r.low + i }

-- n places of a range from the at-th on
abbrev pub run_of : Range → ℕ → ℕ → Range
run_of r at n = record { region = r.region; low = r.low + at; high = r.low + at + n }

-- each place of a range is present
pub record IsHere (m : FieldModel) (r : Range) : Type 0 where
  pub each : (p : Place) → in_range r p ≡ true → IsPresent m p

-- an operation whose words each come from words that no earlier step has written; of the twelve `scan` alone sums on
abbrev pub IsDirect : Op → Type 0
IsDirect (Scan d x) = ⊥
IsDirect _ = Unit {0}

-- what is made of two words
abbrev pub paired : Pairing → ℕ → ℕ → ℕ
paired Plus a b = word_of (a + b)
paired Minus a b = word_of (a + (2 ^ 64 - b))
paired Times a b = word_of (a * b)
paired (Multiple factor) a b = word_of (a + factor * b)

-- what is made of the first n words of a range: their sum, the sum of their products with those of another, or the greatest
abbrev pub gathered : Gathering → Words → Range → ℕ → ℕ
gathered Adding w x n = word_of (total (nth_word w x) n)
gathered (Multiplying z) w x n = word_of (total (λ j. nth_word w x j * nth_word w z j) n)
gathered Comparing w x n = greatest (nth_word w x) n

-- the same of n words from the at-th on, where the words before them gave one already
abbrev pub gathered_on : Gathering → Words → Range → ℕ → ℕ → ℕ → ℕ
gathered_on Adding w x at before n = word_of (before + total (λ j. nth_word w x (at + j)) n)
gathered_on (Multiplying z) w x at before n = word_of (before + total (λ j. nth_word w x (at + j) * nth_word w z (at + j)) n)
gathered_on Comparing w x at before n = max before (greatest (λ j. nth_word w x (at + j)) n)

-- another range is as long, and there too
abbrev pub CanGather : FieldModel → Range → Gathering → Type 0
CanGather m x (Multiplying z) = (length_of x ≡ length_of z) × IsHere m z
CanGather m x _ = Unit {0}

-- what position p gives to a row from a start up to an end: nothing where it is not in the row, or its column is not below n
abbrev pub row_at : ℕ → ℕ → ℕ → (ℕ → ℕ) → (ℕ → ℕ) → (ℕ → ℕ) → ℕ → ℕ
row_at start end n column value word p =
    if nat_le start p && nat_lt p end && nat_lt (column p) n then value p * word (column p) else 0
