-- Names, whose ending may be computed, and paths of names.
use Rattle.std.specs.Prelude.{ℕ, ◌+◌, Bool, ◌==◌, List, [], ◌∷◌, ◌++◌, take, drop, position, Option, None, Some, Result, Ok, Err, decimal}
use Rattle.std.specs.List.{slice_split}
use Rattle.cd_tokens.specs.declared.wrong.Wrong.{Wrong}
use Rattle.cd_tokens.specs.declared.wrong.Wrong.TheVariants.{Form}
use Rattle.cd_tokens.specs.declared.sums.Variable.{Variable}
use Rattle.cd_tokens.specs.Wrongs.{both, guard, ◌>>=◌}
use Rattle.cd_tokens.specs.Sums.{is_base, expression}

abbrev pub is_colon : ℕ → Bool
is_colon b = b == 58

-- a base alone
abbrev pub base_name : List ℕ → Result (List ℕ) Wrong
base_name token = guard (is_base token) Form >>= λ _. Ok token

-- a base and a number: the base followed by the number in decimal
abbrev pub numbered_name : List Variable → List ℕ → List ℕ → Result (List ℕ) Wrong
numbered_name variables base number =
    both (guard (is_base base) Form) (expression variables number) >>= λ p. Ok (base ++ decimal p.1)

-- a name whose first colon stands at this place
abbrev pub name_at : List Variable → List ℕ → Option ℕ → Result (List ℕ) Wrong
name_at variables token None = base_name token
name_at variables token (Some at) = numbered_name variables (take at token) (drop (at + 1) token)

-- BASE or BASE:E
unfoldable pub name : List Variable → List ℕ → Result (List ℕ) Wrong
name variables token = name_at variables token (position is_colon token)

abbrev pub is_slash : ℕ → Bool
is_slash b = b == 47

-- what stands before one more name of a path
abbrev pub slashed : List ℕ → List ℕ
slashed [] = []
slashed (b ∷ path) = b ∷ path ++ 47 ∷ []

-- a name more, behind a `/` where it is not the first
abbrev pub one_more_name : Result (List ℕ) Wrong → Result (List ℕ) Wrong → Result (List ℕ) Wrong
one_more_name path name = both path name >>= λ p. Ok (slashed p.0 ++ p.1)

abbrev pub path_on : List Variable → Result (List ℕ) Wrong → List (List ℕ) → Result (List ℕ) Wrong
path_on variables path [] = path
path_on variables path (token ∷ tokens) = path_on variables (one_more_name path (name variables token)) tokens

-- names joined by `/`
unfoldable pub path : List Variable → List ℕ → Result (List ℕ) Wrong
path variables token = path_on variables (Ok []) (slice_split is_slash token)

-- a path so far, as its text and what is wrong
abbrev pub path_value : List ℕ → Option Wrong → Result (List ℕ) Wrong
path_value text None = Ok text
path_value text (Some wrong) = Err wrong
