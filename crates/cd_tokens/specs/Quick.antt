-- Expressions in one pass, where nothing is wrong with them.
use Rattle.std.specs.Prelude.{◌≡◌, ℕ, ◌+◌, ◌*◌, ◌-◌, ◌<◌, ◌^◌, ◌⊎◌, ◌||◌, Bool, true, false, List, [], ◌∷◌, ◌++◌, Result, Ok, if◌then◌else◌}
use Rattle.std.specs.List.{slice_split}
use Rattle.cd_tokens.specs.declared.wrong.Wrong.{Wrong}
use Rattle.cd_tokens.specs.declared.sums.Variable.{Variable}
use Rattle.cd_tokens.specs.declared.sums.Reading.{Reading}
use Rattle.cd_tokens.specs.Sums.{is_digit, is_times, is_sign, atom, joined, plus, product_on, sum_on, cut_at_signs}

-- a byte between two atoms
abbrev pub is_operator : ℕ → Bool
is_operator b = is_times b || is_sign b

-- no byte stands between two atoms
abbrev pub IsPlain : List ℕ → Type 0
IsPlain [] = Unit {0}
IsPlain (b ∷ bytes) = (is_operator b ≡ false) × IsPlain bytes

-- a token cut before an operator, or at its end
pub record CutsPlain (token front rest : List ℕ) : Type 0 where
  pub plain : IsPlain front
  pub whole : token ≡ front ++ rest

-- a digit at the front of a token, and what stands behind it
pub record BeginsDigit (token : List ℕ) (digit : ℕ) (rest : List ℕ) : Type 0 where
  pub is : is_digit digit ≡ true
  pub whole : token ≡ digit ∷ rest

-- no digit at the front of a token
abbrev pub BeginsOther : List ℕ → Type 0
BeginsOther [] = Unit {0}
BeginsOther (b ∷ bytes) = is_digit b ≡ false

-- the number that digits at the front of a token make behind a number, and what stands behind them
abbrev pub number_front : ℕ → List ℕ → ℕ × List ℕ
number_front n [] = (n, [])
number_front n (b ∷ bytes) = if is_digit b then number_front (10 * n + (b - 48)) bytes else (n, b ∷ bytes)

-- a token begins with a number of 64 bits, and this stands behind it
abbrev pub IsFront : List ℕ → ℕ → List ℕ → Type 0
IsFront token value rest = (value < 2 ^ 64) × (number_front 0 token ≡ (value, rest))

-- an atom at the front of a token, its value, and what stands behind it
pub record ReadsAtom (variables : List Variable) (token : List ℕ) (value : ℕ) (rest : List ℕ) : Type 0 where
  pub front : List ℕ
  pub cuts : CutsPlain token front rest
  pub is : atom variables front ≡ Ok value

-- what an expression comes to of which a part is read, and this is left
abbrev pub sum_behind : List Variable → Reading → List ℕ → Result ℕ Wrong
sum_behind variables reading rest =
    sum_on variables (plus (Ok reading.sum) reading.sign (product_on variables (Ok reading.product) (slice_split is_times (cut_at_signs rest).0)))
    (cut_at_signs rest).1

-- one factor more, with a `*` behind it
pub record IsFactor (reading : Reading) (factor operator : ℕ) (next : Reading) : Type 0 where
  pub is : operator ≡ 42
  pub sum : next.sum ≡ reading.sum
  pub sign : next.sign ≡ reading.sign
  pub product : next.product ≡ reading.product * factor
  pub fits : next.product < 2 ^ 64

-- the last factor of a term, with the sign of the next term behind it
pub record IsTerm (reading : Reading) (factor operator : ℕ) (next : Reading) : Type 0 where
  pub is : is_sign operator ≡ true
  pub fits : reading.product * factor < 2 ^ 64
  pub sum : joined reading.sign reading.sum (reading.product * factor) ≡ Ok next.sum
  pub sign : next.sign ≡ operator
  pub product : next.product ≡ 1

abbrev pub GoesOn : Reading → ℕ → ℕ → Reading → Type 0
GoesOn reading factor operator next = IsFactor reading factor operator next ⊎ IsTerm reading factor operator next

-- the last factor of all
pub record IsLast (reading : Reading) (factor total : ℕ) : Type 0 where
  pub fits : reading.product * factor < 2 ^ 64
  pub sum : joined reading.sign reading.sum (reading.product * factor) ≡ Ok total
