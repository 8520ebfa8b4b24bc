-- Numbers: digits, variables, products and sums. Each intermediate result has 64 bits.
use Rattle.std.specs.Prelude.{ℕ, ◌+◌, ◌*◌, ◌-◌, ◌^◌, Bool, ◌&&◌, ◌||◌, true, false, nat_lt, nat_le, ◌==◌, List, [], ◌∷◌, length, take, drop, position, Option, None, Some, Result, Ok, Err, if◌then◌else◌}
use Rattle.std.specs.List.{list_all, slice_split}
use Rattle.std.specs.Str.{bytes_eq}
use Rattle.cd_tokens.specs.declared.wrong.Wrong.{Wrong}
use Rattle.cd_tokens.specs.declared.wrong.Wrong.TheVariants.{Form, Overflow}
use Rattle.cd_tokens.specs.declared.sums.Variable.{Variable}
use Rattle.cd_tokens.specs.Wrongs.{both, ◌>>=◌}

abbrev pub is_digit : ℕ → Bool
is_digit b = nat_le 48 b && nat_le b 57

abbrev pub is_letter : ℕ → Bool
is_letter b = nat_le 97 b && nat_le b 122

-- a lower-case letter, a digit or `_`
abbrev pub is_name_byte : ℕ → Bool
is_name_byte b = is_letter b || (is_digit b || (b == 95))

-- a lower-case letter, then lower-case letters, digits and `_`
abbrev pub is_base : List ℕ → Bool
is_base [] = false
is_base (b ∷ bytes) = is_letter b && list_all is_name_byte bytes

-- ---- single numbers

-- a number that has 64 bits
abbrev pub in_64_bits : ℕ → Result ℕ Wrong
in_64_bits n = if nat_lt n (2 ^ 64) then Ok n else Err Overflow

-- digits behind a number: each is one place more
abbrev pub value_after : ℕ → List ℕ → ℕ
value_after n [] = n
value_after n (b ∷ bytes) = value_after (10 * n + (b - 48)) bytes

-- the value of the variable with this name among those of the loops around
abbrev pub value_of : List Variable → List ℕ → Result ℕ Wrong
value_of [] name = Err Form
value_of (variable ∷ variables) name =
    if bytes_eq variable.name name then Ok variable.value else value_of variables name

-- one or more digits, or a variable
unfoldable pub atom : List Variable → List ℕ → Result ℕ Wrong
atom variables token =
    if length token == 0 then Err Form
    else (if list_all is_digit token then in_64_bits (value_after 0 token) else value_of variables token)

-- ---- products

abbrev pub is_times : ℕ → Bool
is_times b = b == 42

-- one factor more
unfoldable pub times : Result ℕ Wrong → Result ℕ Wrong → Result ℕ Wrong
times product factor = both product factor >>= λ p. in_64_bits (p.0 * p.1)

-- the factors behind a product, from left to right
abbrev pub product_on : List Variable → Result ℕ Wrong → List (List ℕ) → Result ℕ Wrong
product_on variables product [] = product
product_on variables product (factor ∷ factors) =
    product_on variables (times product (atom variables factor)) factors

-- atoms joined by `*`
unfoldable pub term : List Variable → List ℕ → Result ℕ Wrong
term variables token = product_on variables (Ok 1) (slice_split is_times token)

-- ---- sums

abbrev pub is_plus : ℕ → Bool
is_plus b = b == 43

abbrev pub is_minus : ℕ → Bool
is_minus b = b == 45

abbrev pub is_sign : ℕ → Bool
is_sign b = is_plus b || is_minus b

-- a term with the sign before it
pub record Part : Type 0 where
  pub sign : ℕ
  pub token : List ℕ

-- a byte before parts belongs to the first, whose sign is not yet known; a sign is that of the first, and begins another
abbrev pub put_byte : Bool → ℕ → List ℕ × List Part → List ℕ × List Part
put_byte false b cut = (b ∷ cut.0, cut.1)
put_byte true b cut = ([], record { sign = b; token = cut.0 } ∷ cut.1)

-- a token cut at its signs: what stands before the first, and each sign with what stands behind it
abbrev pub cut_at_signs : List ℕ → List ℕ × List Part
cut_at_signs [] = ([], [])
cut_at_signs (b ∷ token) = put_byte (is_sign b) b (cut_at_signs token)

-- the parts of a token behind a sign
abbrev pub parts_of : ℕ → List ℕ → List Part
parts_of sign token = record { sign = sign; token = (cut_at_signs token).0 } ∷ (cut_at_signs token).1

abbrev pub difference : ℕ → ℕ → Result ℕ Wrong
difference a b = if nat_le b a then Ok (a - b) else Err Overflow

-- a sum, or a difference
abbrev pub joined : ℕ → ℕ → ℕ → Result ℕ Wrong
joined sign a b = if is_minus sign then difference a b else in_64_bits (a + b)

-- one term more, with its sign
unfoldable pub plus : Result ℕ Wrong → ℕ → Result ℕ Wrong → Result ℕ Wrong
plus sum sign term = both sum term >>= λ p. joined sign p.0 p.1

-- the parts behind a sum, from left to right
abbrev pub sum_on : List Variable → Result ℕ Wrong → List Part → Result ℕ Wrong
sum_on variables sum [] = sum
sum_on variables sum (part ∷ parts) =
    sum_on variables (plus sum part.sign (term variables part.token)) parts

-- terms joined by `+` and `-`: behind 0, the first with `+`
unfoldable pub expression : List Variable → List ℕ → Result ℕ Wrong
expression variables token = sum_on variables (Ok 0) (parts_of 43 token)

-- ---- two numbers

-- what stands behind a `.` that is the first byte
abbrev pub behind_dot : List ℕ → Option (List ℕ)
behind_dot [] = None
behind_dot (b ∷ token) = if b == 46 then Some token else None

abbrev pub two_numbers : List Variable → List ℕ → Option (List ℕ) → Result (ℕ × ℕ) Wrong
two_numbers variables low None = Err Form
two_numbers variables low (Some high) = both (expression variables low) (expression variables high)

-- E..E, where the first dot stands at this place
abbrev pub bounds_at : List Variable → List ℕ → Option ℕ → Result (ℕ × ℕ) Wrong
bounds_at variables token None = Err Form
bounds_at variables token (Some at) = two_numbers variables (take at token) (behind_dot (drop (at + 1) token))

abbrev pub is_dot : ℕ → Bool
is_dot b = b == 46

-- E..E
unfoldable pub bounds : List Variable → List ℕ → Result (ℕ × ℕ) Wrong
bounds variables token = bounds_at variables token (position is_dot token)
