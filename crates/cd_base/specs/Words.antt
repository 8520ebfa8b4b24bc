-- Places, the words that stand in them, and the patterns of initial words.
use Rattle.std.specs.Prelude.{ℕ, ◌+◌, ◌*◌, ◌%◌, ◌^◌, Bool, false, ◌&&◌, ◌||◌, nat_lt, nat_le, ◌==◌, List, [], ◌∷◌, Option, Some, unwrap_or, bit_xor, if◌then◌else◌}
use Rattle.cd_base.specs.declared.place.Place.{Place}
use Rattle.cd_base.specs.declared.place.Range.{Range}
use Rattle.cd_base.specs.declared.pattern.Pattern.{Pattern}
use Rattle.cd_base.specs.declared.pattern.Pattern.TheVariants.{Const, Iota, Mix}

-- the value of a sum or a product in 64 bits
abbrev pub word_of : ℕ → ℕ
word_of n = n % 2 ^ 64

-- the word of a pattern at an index
abbrev pub pattern_word : Pattern → ℕ → ℕ
pattern_word (Const word) i = word
pattern_word (Iota first step) i = word_of (first + step * i)
pattern_word (Mix seed) i = word_of ((seed + i) * 6364136223846793005 + 1442695040888963407)

-- words by their places; a place without a word is no place of the machine
abbrev pub Words : Type 0
Words = Place → Option ℕ

-- a test on places
abbrev pub PlaceSet : Type 0
PlaceSet = Place → Bool

abbrev pub same_place : Place → Place → Bool
same_place p q = (p.region == q.region) && (p.index == q.index)

abbrev pub in_range : Range → Place → Bool
in_range r p = (r.region == p.region) && (nat_le r.low p.index && nat_lt p.index r.high)

-- a place of one of these ranges
abbrev pub in_ranges : List Range → Place → Bool
in_ranges [] p = false
in_ranges (r ∷ rs) p = in_range r p || in_ranges rs p

-- the word of a place, or 0 where it has none
abbrev pub word_at : Words → Place → ℕ
word_at w p = unwrap_or (w p) 0

-- these words with another word in one place
abbrev pub put : Words → Place → ℕ → Words
put w p word = λ q. if same_place p q then Some word else w q

-- a strike: the place's word is changed by exclusive or with the mask
abbrev pub struck_word : Words → Place → ℕ → Words
struck_word w p mask = put w p (bit_xor (word_at w p) mask)
