-- Worked cases of keeps: how a range is cut, which pieces meet a range, which words pieces give.
use Rattle.std.proofs.Common.{◌≡◌, ℕ, ◌+◌, ◌*◌, List, [], ◌∷◌, None, Some, refl}
use Rattle.cd_base.specs.declared.place.Place.{Place}
use Rattle.cd_keep.specs.declared.keep_id.KeepId.{KeepId}
use Rattle.cd_tries.specs.declared.keep.Pieces.{Pieces}
use Rattle.cd_tries.specs.declared.keep.Keep.TheVariants.{Copied, Shared, Pattern}
use Rattle.cd_tries.specs.declared.shelf.Level.{Level}
use Rattle.cd_tries.specs.Keeping.{Known, text, piece_words, all_ids, times_in, linked}
use Rattle.cd_tries.specs.Preserving.{nth_piece, met}

abbrev id : ℕ → KeepId
id block = record { block = block; serial = 1 }

abbrev at : ℕ → Place
at index = record { region = 0; index = index }

-- four pieces, from index 10 on, of which the last has 8 words
abbrev four : Pieces
four = record { begin = 10; end = 210; ids = id 0 ∷ id 1 ∷ id 2 ∷ id 3 ∷ [] }

-- a range of 200 words is cut in four; the last piece has 8
cut_second : nth_piece (record { region = 0; low = 10; high = 210 }) 1 ≡ record { region = 0; low = 74; high = 138 }
cut_second = refl

cut_last : nth_piece (record { region = 0; low = 10; high = 210 }) 3 ≡ record { region = 0; low = 202; high = 210 }
cut_last = refl

-- indices 73 to 138 meet the first three pieces, 74 to 137 the second alone, 202 on the last
met_three : met four (record { region = 0; low = 73; high = 139 }) ≡ record { begin = 10; end = 202; ids = id 0 ∷ id 1 ∷ id 2 ∷ [] }
met_three = refl

met_second : met four (record { region = 0; low = 74; high = 138 }) ≡ record { begin = 74; end = 138; ids = id 1 ∷ [] }
met_second = refl

met_last : met four (record { region = 0; low = 202; high = 205 }) ≡ record { begin = 202; end = 210; ids = id 3 ∷ [] }
met_last = refl

-- the words of pieces of two words each, for short
abbrev two_words : Known
two_words = λ k. Some ((10 * k.block) ∷ (10 * k.block + 1) ∷ [])

text_of_two : text two_words (id 1 ∷ id 2 ∷ []) ≡ 10 ∷ 11 ∷ 20 ∷ 21 ∷ []
text_of_two = refl

word_third : piece_words two_words (record { begin = 5; end = 9; ids = id 1 ∷ id 2 ∷ [] }) (at 7) ≡ Some 20
word_third = refl

word_before : piece_words two_words (record { begin = 5; end = 9; ids = id 1 ∷ id 2 ∷ [] }) (at 4) ≡ None
word_before = refl

word_behind : piece_words two_words (record { begin = 5; end = 9; ids = id 1 ∷ id 2 ∷ [] }) (at 9) ≡ None
word_behind = refl

-- an id that two entries share is held twice
held_twice : times_in (id 1) (all_ids (Copied (record { begin = 0; end = 4; ids = id 1 ∷ id 2 ∷ [] }) ∷ Pattern ∷ Shared (record { begin = 0; end = 2; ids = id 1 ∷ [] }) ∷ [])) ≡ 2
held_twice = refl

-- what the domain with number 3 keeps of its second entry
abbrev levels : List Level
levels = record { node = record { 0 = 0 }; keeps = Copied four ∷ [] } ∷ record { node = record { 0 = 3 }; keeps = Pattern ∷ Shared four ∷ [] } ∷ []

linked_second : linked levels (record { 0 = 3 }, 1) ≡ Some four
linked_second = refl

linked_pattern : linked levels (record { 0 = 3 }, 0) ≡ None
linked_pattern = refl

linked_nowhere : linked levels (record { 0 = 2 }, 0) ≡ None
linked_nowhere = refl
