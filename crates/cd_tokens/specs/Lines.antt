-- A text as lines, and a line as tokens.
use Rattle.std.specs.Prelude.{ℕ, Bool, ◌||◌, not, ◌==◌, List, [], ◌∷◌, length, filter, if◌then◌else◌}
use Rattle.std.specs.List.{slice_split, onto_first}

abbrev pub is_feed : ℕ → Bool
is_feed b = b == 10

-- space, tab or carriage return
abbrev pub is_blank : ℕ → Bool
is_blank b = (b == 32) || ((b == 9) || (b == 13))

abbrev pub is_comment : ℕ → Bool
is_comment b = b == 35

-- a line feed ends a line, which may be empty; any other byte belongs to the line that goes on behind it
abbrev pub lines : List ℕ → List (List ℕ)
lines [] = []
lines (b ∷ bytes) = if is_feed b then [] ∷ lines bytes else onto_first b (lines bytes)

abbrev pub is_token : List ℕ → Bool
is_token piece = not (length piece == 0)

abbrev pub first_part : List (List ℕ) → List ℕ
first_part [] = []
first_part (part ∷ parts) = part

-- what stands before the first `#`
abbrev pub said : List ℕ → List ℕ
said line = first_part (slice_split is_comment line)

-- what stands between blanks before a comment and is not empty: the longest runs of other bytes
abbrev pub tokens : List ℕ → List (List ℕ)
tokens line = filter is_token (slice_split is_blank (said line))
