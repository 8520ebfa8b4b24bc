-- What the functions that cut a token answer.
use Rattle.std.specs.Prelude.{◌≡◌, ℕ, ◌+◌, ◌<◌, Bool, ◌==◌, List, [], ◌∷◌, length, take, drop, position, Option, Some, None, MatchOption}
use Rattle.std.specs.List.{slice_split}
use Rattle.std.specs.Borrow.{Bor}
use Rattle.cd_tokens.specs.Sums.{Part, parts_of}

abbrev pub is_byte : ℕ → ℕ → Bool
is_byte wanted b = b == wanted

-- a token cut at a byte: its first part and the token of the others; it is shorter
pub record CutsAt (token : List ℕ) (wanted : ℕ) (before behind : List ℕ) : Type 0 where
  pub split : slice_split (is_byte wanted) token ≡ before ∷ slice_split (is_byte wanted) behind
  pub shorter : length behind < length token
  pub place : (at : ℕ) × (position (is_byte wanted) token ≡ Some at) × (before ≡ take at token) × (behind ≡ drop (at + 1) token)

-- a token without such a byte
pub record IsUncut (token : List ℕ) (wanted : ℕ) : Type 0 where
  pub split : slice_split (is_byte wanted) token ≡ token ∷ []
  pub place : position (is_byte wanted) token ≡ None

abbrev pub Cuts : List ℕ → ℕ → Option (Bor (List ℕ) × Bor (List ℕ)) → Type 0
Cuts token wanted result = MatchOption result (IsUncut token wanted) (λ p. CutsAt token wanted p.0.now p.1.now)

abbrev pub part_of : ℕ → List ℕ → Part
part_of sign token = record { sign = sign; token = token }

-- a token cut at its first sign, whatever its own sign is
pub record CutsSignAt (token before : List ℕ) (next : ℕ) (behind : List ℕ) : Type 0 where
  pub parts : (sign : ℕ) → parts_of sign token ≡ part_of sign before ∷ parts_of next behind
  pub shorter : length behind < length token

abbrev pub CutsSign : List ℕ → Option (Bor (List ℕ) × ℕ × Bor (List ℕ)) → Type 0
CutsSign token result =
    MatchOption result ((sign : ℕ) → parts_of sign token ≡ part_of sign token ∷ []) (λ p. CutsSignAt token p.0.now p.1 p.2.now)
