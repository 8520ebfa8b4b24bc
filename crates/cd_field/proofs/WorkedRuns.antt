-- Runs of words worked out: what is read, written and put back on a region of four words, two of which are away.
use Rattle.std.proofs.Common.{◌≡◌, ℕ, ◌*◌, true, false, [], ◌∷◌, Some, None, if◌then◌else◌, refl}
use Rattle.cd_base.specs.declared.place.Place.{Place}
use Rattle.cd_base.specs.declared.place.Range.{Range}
use Rattle.cd_base.specs.Words.{in_range}
use Rattle.cd_field.specs.FieldModel.{FieldModel, loaded, words_in, wrote_run, refilled_run}

abbrev span : ℕ → ℕ → Range
span low high = record { region = 0; low = low; high = high }

abbrev at : ℕ → Place
at index = record { region = 0; index = index }

-- 0, 10, 20 and 30; the words of places 1 and 2 are away
abbrev before : FieldModel
before = record (loaded [] []) {
  words = λ q. if in_range (span 0 4) q then Some (q.index * 10) else None;
  lost = in_range (span 1 3);
}

read_two : words_in before.words (span 1 3) ≡ 10 ∷ 20 ∷ []
read_two = refl

read_none : words_in before.words (span 3 3) ≡ []
read_none = refl

abbrev wrote_two : FieldModel
wrote_two = wrote_run before (span 2 4) (7 ∷ 8 ∷ [])

written_words : words_in wrote_two.words (span 0 4) ≡ 0 ∷ 10 ∷ 7 ∷ 8 ∷ []
written_words = refl

-- a write takes nothing back, and gives no place a word that had none
still_away : (wrote_two.lost (at 2) ≡ true) × (wrote_two.words (at 4) ≡ None)
still_away = (refl, refl)

abbrev refilled_two : FieldModel
refilled_two = refilled_run before (span 2 4) (7 ∷ 8 ∷ [])

refilled_words : (words_in refilled_two.words (span 0 4) ≡ 0 ∷ 10 ∷ 7 ∷ 8 ∷ []) × (refilled_two.lost (at 2) ≡ false) × (refilled_two.lost (at 1) ≡ true)
refilled_words = (refl, refl, refl)
