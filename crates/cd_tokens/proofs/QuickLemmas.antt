-- Expressions in one pass.
use Rattle.std.proofs.Common.{◌≡◌, ℕ, zero, suc, ◌+◌, ◌*◌, ◌-◌, ◌<◌, ◌≤◌, ◌^◌, ◌==◌, ◌&&◌, Bool, true, false, not, cond, nat_lt, List, [], ◌∷◌, ◌++◌, length, take, drop, get_or, Option, Some, None, inl, inr, refl, sym, ap, ◌∙◌, subst, arith, ltb-false}
use Rattle.std.specs.Prelude.{Result, Ok, Err, IfSome}
use Rattle.std.specs.Borrow.{Bor}
use Rattle.std.specs.List.{list_all, onto_first, position, position_or_len, slice_split}
use Rattle.std.proofs.lemmas.Bool.{or_parts}
use Rattle.std.proofs.lemmas.Bool.Decides.{nat_tests}
use Rattle.std.proofs.Math.Seq.{take-length}
use Rattle.std.proofs.lemmas.List.{append-nil, take-append-drop, take_rest}
use Rattle.std.proofs.lemmas.List.Quantifiers.{position-Some}
use Rattle.cd_tokens.specs.declared.wrong.Wrong.{Wrong}
use Rattle.cd_tokens.specs.declared.wrong.Wrong.TheVariants.{Form, Overflow}
use Rattle.cd_tokens.specs.declared.sums.Variable.{Variable}
use Rattle.cd_tokens.specs.declared.sums.Reading.{Reading}
use Rattle.cd_tokens.specs.Quick.{is_operator, IsPlain, CutsPlain, BeginsDigit, BeginsOther, number_front, IsFront, ReadsAtom, sum_behind, GoesOn, IsLast}
use Rattle.cd_tokens.specs.Sums.{is_digit, is_times, is_sign, in_64_bits, value_after, value_of, atom, times, term, joined, plus, product_on, sum_on, Part, put_byte, cut_at_signs, expression}
use Rattle.cd_tokens.proofs.LineLemmas.{none_found}

-- ---- where the first operator stands

plain_front : (xs : List ℕ) (n : ℕ) → n ≤ length xs → ((k : ℕ) → k < n → is_operator (get_or xs k 0) ≡ false) → IsPlain (take n xs)
plain_front [] zero within none = tt
plain_front [] (suc n) within none = absurd (omega arith)
plain_front (x ∷ xs) zero within none = tt
plain_front (x ∷ xs) (suc n) within none =
    (none 0 (omega arith), plain_front xs n (omega arith) (λ (k : ℕ) h. none (suc k) (omega arith)))

-- a token cut before its first operator
pub cuts_plain_at : (xs : List ℕ) (at : ℕ) → position is_operator xs ≡ Some at → CutsPlain xs (take at xs) (drop at xs)
cuts_plain_at xs at found =
    let first = position-Some is_operator xs at 0 found in
    record {
      plain = plain_front xs at (omega (arith, first.0)) first.2;
      whole = sym (take-append-drop at xs);
    }

plain_more : (b : Bool) (n : ℕ) (xs : List ℕ) → (length xs ≤ n → IsPlain xs) → suc (length xs) ≤ cond (not b) (1 + n) 0 → (b ≡ false) × IsPlain xs
plain_more true n xs h k = absurd (omega arith)
plain_more false n xs h k = (refl, h (omega arith))

plain_all : (xs : List ℕ) → length xs ≤ position_or_len is_operator xs → IsPlain xs
plain_all [] h = tt
plain_all (x ∷ xs) h = plain_more (is_operator x) (position_or_len is_operator xs) xs (plain_all xs) h

-- and one without an operator at its end
pub cuts_plain_end : (xs : List ℕ) → position is_operator xs ≡ None → CutsPlain xs (take (length xs) xs) (drop (length xs) xs)
cuts_plain_end xs none =
    let plain : IsPlain xs =
    plain_all xs (ltb-false _ _ (none_found (nat_lt (position_or_len is_operator xs) (length xs)) (position_or_len is_operator xs) none)) in
    record {
      plain = subst IsPlain (sym (take-length xs)) plain;
      whole = sym (take-append-drop (length xs) xs);
    }

-- ---- a token behind bytes without an operator

cut_plain : (front rest : List ℕ) → IsPlain front
    → cut_at_signs (front ++ rest) ≡ (front ++ (cut_at_signs rest).0, (cut_at_signs rest).1)
cut_plain [] rest plain = refl
cut_plain (b ∷ front) rest plain =
    ap (λ (t : Bool). put_byte t b (cut_at_signs (front ++ rest))) (or_parts (is_times b) (is_sign b) plain.0).1
    ∙ ap (put_byte false b) (cut_plain front rest plain.1)

cut_alone : (front : List ℕ) → IsPlain front → cut_at_signs front ≡ (front, [])
cut_alone [] plain = refl
cut_alone (b ∷ front) plain =
    ap (λ (t : Bool). put_byte t b (cut_at_signs front)) (or_parts (is_times b) (is_sign b) plain.0).1
    ∙ ap (put_byte false b) (cut_alone front plain.1)

split_step : (t : Bool) (b : ℕ) (parts : List (List ℕ)) → t ≡ false → cond t ([] ∷ parts) (onto_first b parts) ≡ onto_first b parts
split_step t b parts is = ap (λ (u : Bool). cond u ([] ∷ parts) (onto_first b parts)) is

split_plain : (front rest : List ℕ) → IsPlain front → slice_split is_times (front ++ 42 ∷ rest) ≡ front ∷ slice_split is_times rest
split_plain [] rest plain = refl
split_plain (b ∷ front) rest plain =
    split_step (is_times b) b (slice_split is_times (front ++ 42 ∷ rest)) (or_parts (is_times b) (is_sign b) plain.0).0
    ∙ ap (onto_first b) (split_plain front rest plain.1)

split_alone : (front : List ℕ) → IsPlain front → slice_split is_times front ≡ front ∷ []
split_alone [] plain = refl
split_alone (b ∷ front) plain =
    split_step (is_times b) b (slice_split is_times front) (or_parts (is_times b) (is_sign b) plain.0).0
    ∙ ap (onto_first b) (split_alone front plain.1)

-- ---- numbers of 64 bits

fits_when : (b : Bool) (n : ℕ) → b ≡ true → cond b (Ok n) (Err Overflow) ≡ Ok n
fits_when true n is = refl
fits_when false n is = absurd (cc)

fits : (n : ℕ) → n < 2 ^ 64 → in_64_bits n ≡ Ok n
fits n few = fits_when (nat_lt n (2 ^ 64)) n (grind (arith, nat_tests))

times_fits : (product factor : ℕ) → product * factor < 2 ^ 64 → times (Ok product) (Ok factor) ≡ Ok (product * factor)
unfolding times
times_fits product factor few = fits (product * factor) few

plus_is : (sum : ℕ) (sign : ℕ) (term : ℕ) → plus (Ok sum) sign (Ok term) ≡ joined sign sum term
unfolding plus
plus_is sum sign term = refl

-- ---- one factor more

-- what an expression comes to whose rest is cut at its signs
abbrev behind_cut : List Variable → ℕ → ℕ → ℕ → List ℕ × List Part → Result ℕ Wrong
behind_cut variables sum sign product cut =
    sum_on variables (plus (Ok sum) sign (product_on variables (Ok product) (slice_split is_times cut.0))) cut.1

-- the same, whose factors are cut
abbrev factors_behind : List Variable → ℕ → ℕ → Result ℕ Wrong → List (List ℕ) → List Part → Result ℕ Wrong
factors_behind variables sum sign product factors parts =
    sum_on variables (plus (Ok sum) sign (product_on variables product factors)) parts

factor_read : (variables : List Variable) (sum sign product value : ℕ) (rest front more : List ℕ) → IsPlain front → rest ≡ front ++ 42 ∷ more
    → atom variables front ≡ Ok value → product * value < 2 ^ 64
    → behind_cut variables sum sign product (cut_at_signs rest) ≡ behind_cut variables sum sign (product * value) (cut_at_signs more)
factor_read variables sum sign product value rest front more plain whole is few =
    ap (behind_cut variables sum sign product) (ap cut_at_signs whole ∙ cut_plain front (42 ∷ more) plain)
    ∙ ap (λ (factors : List (List ℕ)). factors_behind variables sum sign (Ok product) factors (cut_at_signs more).1)
    (split_plain front (cut_at_signs more).0 plain)
    ∙ ap (λ (p : Result ℕ Wrong). factors_behind variables sum sign p (slice_split is_times (cut_at_signs more).0) (cut_at_signs more).1)
    (ap (times (Ok product)) is ∙ times_fits product value few)

-- what the last factor of a term makes of the sum
term_sum : (variables : List Variable) (sum sign product value next : ℕ) (front : List ℕ) → IsPlain front → atom variables front ≡ Ok value
    → product * value < 2 ^ 64 → joined sign sum (product * value) ≡ Ok next
    → plus (Ok sum) sign (product_on variables (Ok product) (slice_split is_times front)) ≡ Ok next
term_sum variables sum sign product value next front plain is few sums =
    ap (λ (factors : List (List ℕ)). plus (Ok sum) sign (product_on variables (Ok product) factors)) (split_alone front plain)
    ∙ ap (λ (p : Result ℕ Wrong). plus (Ok sum) sign p) (ap (times (Ok product)) is ∙ times_fits product value few)
    ∙ plus_is sum sign (product * value) ∙ sums

sign_cut : (front more : List ℕ) (sign : ℕ) → IsPlain front → is_sign sign ≡ true
    → cut_at_signs (front ++ sign ∷ more) ≡ (front, record { sign = sign; token = (cut_at_signs more).0 } ∷ (cut_at_signs more).1)
sign_cut front more sign plain is =
    let first : cut_at_signs (sign ∷ more) ≡ ([], record { sign = sign; token = (cut_at_signs more).0 } ∷ (cut_at_signs more).1) =
    ap (λ (t : Bool). put_byte t sign (cut_at_signs more)) is in
    cut_plain front (sign ∷ more) plain
    ∙ ap (λ (cut : List ℕ × List Part). (front ++ cut.0, cut.1)) first
    ∙ ap (λ (token : List ℕ). (token, record { sign = sign; token = (cut_at_signs more).0 } ∷ (cut_at_signs more).1)) (append-nil front)

term_read : (variables : List Variable) (sum sign product value next operator : ℕ) (rest front more : List ℕ) → IsPlain front
    → is_sign operator ≡ true → rest ≡ front ++ operator ∷ more → atom variables front ≡ Ok value → product * value < 2 ^ 64
    → joined sign sum (product * value) ≡ Ok next
    → behind_cut variables sum sign product (cut_at_signs rest) ≡ behind_cut variables next operator 1 (cut_at_signs more)
unfolding term
term_read variables sum sign product value next operator rest front more plain is whole value_is few sums =
    ap (behind_cut variables sum sign product) (ap cut_at_signs whole ∙ sign_cut front more operator plain is)
    ∙ ap (λ (s : Result ℕ Wrong). sum_on variables s (record { sign = operator; token = (cut_at_signs more).0 } ∷ (cut_at_signs more).1))
    (term_sum variables sum sign product value next front plain value_is few sums)

pub nothing_left : (bytes : List ℕ) → length bytes < 1 → bytes ≡ []
nothing_left [] few = refl
nothing_left (b ∷ bytes) few = absurd (omega arith)

-- a first byte, and those behind it as the slices of the code show them
pub first_and_rest : (bytes : List ℕ) → 1 ≤ length bytes → bytes ≡ get_or bytes 0 0 ∷ take (length bytes - 1) (drop 1 bytes)
first_and_rest [] some = absurd (omega arith)
first_and_rest (b ∷ bytes) some = ap (λ (rest : List ℕ). b ∷ rest) (sym (take_rest (b ∷ bytes) 1))

-- a token that begins with an atom and goes on with an operator
goes_on : (variables : List Variable) (value operator : ℕ) (rest behind more : List ℕ) (read : ReadsAtom variables rest value behind)
    → behind ≡ operator ∷ more → rest ≡ read.front ++ operator ∷ more
goes_on variables value operator rest behind more read is = read.cuts.whole ∙ ap (λ (bytes : List ℕ). read.front ++ bytes) is

-- one factor more, and the operator behind it
pub read_more : (variables : List Variable) (reading next : Reading) (value operator : ℕ) (rest behind more : List ℕ)
    → ReadsAtom variables rest value behind → behind ≡ operator ∷ more → GoesOn reading value operator next
    → sum_behind variables next more ≡ sum_behind variables reading rest
read_more variables reading next value operator rest behind more read is (inl factor) =
    let whole : rest ≡ read.front ++ 42 ∷ more =
    goes_on variables value operator rest behind more read is ∙ ap (λ (b : ℕ). read.front ++ b ∷ more) factor.is in
    let few : reading.product * value < 2 ^ 64 = subst (λ (n : ℕ). n < 2 ^ 64) factor.product factor.fits in
    ap (λ (n : ℕ). behind_cut variables n next.sign next.product (cut_at_signs more)) factor.sum
    ∙ ap (λ (n : ℕ). behind_cut variables reading.sum n next.product (cut_at_signs more)) factor.sign
    ∙ ap (λ (n : ℕ). behind_cut variables reading.sum reading.sign n (cut_at_signs more)) factor.product
    ∙ sym (factor_read variables reading.sum reading.sign reading.product value rest read.front more read.cuts.plain whole read.is few)
read_more variables reading next value operator rest behind more read is (inr last) =
    ap (λ (n : ℕ). behind_cut variables next.sum n next.product (cut_at_signs more)) last.sign
    ∙ ap (λ (n : ℕ). behind_cut variables next.sum operator n (cut_at_signs more)) last.product
    ∙ sym (term_read variables reading.sum reading.sign reading.product value next.sum operator rest read.front more read.cuts.plain
    last.is (goes_on variables value operator rest behind more read is) read.is last.fits last.sum)

-- the last factor of all
read_end : (variables : List Variable) (reading : Reading) (value sum : ℕ) (rest behind : List ℕ) → ReadsAtom variables rest value behind
    → behind ≡ [] → IsLast reading value sum → sum_behind variables reading rest ≡ Ok sum
read_end variables reading value sum rest behind read is last =
    let whole : rest ≡ read.front = read.cuts.whole ∙ ap (λ (bytes : List ℕ). read.front ++ bytes) is ∙ append-nil read.front in
    ap (sum_behind variables reading) whole
    ∙ ap (behind_cut variables reading.sum reading.sign reading.product) (cut_alone read.front read.cuts.plain)
    ∙ term_sum variables reading.sum reading.sign reading.product value sum read.front read.cuts.plain read.is last.fits last.sum

-- the same, where there is a sum
pub end_given : (variables : List Variable) (reading : Reading) (value : ℕ) (result : Option ℕ) (token rest behind : List ℕ)
    → ReadsAtom variables rest value behind → behind ≡ [] → IfSome result (λ sum. IsLast reading value sum)
    → sum_behind variables reading rest ≡ expression variables token → IfSome result (λ sum. expression variables token ≡ Ok sum)
end_given variables reading value None token rest behind read is last whole = tt
end_given variables reading value (Some sum) token rest behind read is last whole =
    sym whole ∙ read_end variables reading value sum rest behind read is last

-- nothing is read yet
pub read_none : (variables : List Variable) (token : List ℕ)
    → sum_behind variables (record { sum = 0; sign = 43; product = 1 }) token ≡ expression variables token
unfolding expression term
read_none variables token = refl

-- ---- atoms

-- with these digits behind it, a number becomes that one, which has 64 bits
abbrev HasDigits : ℕ → ℕ → List ℕ → Type 0
HasDigits before value [] = (before ≡ value) × (value < 2 ^ 64)
HasDigits before value (b ∷ bytes) = (is_digit b ≡ true) × HasDigits (10 * before + (b - 48)) value bytes

all_digits : (n value : ℕ) (bytes : List ℕ) → HasDigits n value bytes
    → (list_all is_digit bytes ≡ true) × (value_after n bytes ≡ value) × (value < 2 ^ 64)
all_digits n value [] has = (refl, has.0, has.1)
all_digits n value (b ∷ bytes) has =
    let rest = all_digits (10 * n + (b - 48)) value bytes has.1 in
    (ap (λ (t : Bool). t && list_all is_digit bytes) has.0 ∙ rest.0, rest.1, rest.2)

-- digits are an atom
digits_atom : (variables : List Variable) (value : ℕ) (token : List ℕ) → 0 < length token → HasDigits 0 value token
    → atom variables token ≡ Ok value
unfolding atom
digits_atom variables value token some has =
    let all = all_digits 0 value token has in
    let more : (length token == 0) ≡ false = grind (arith, nat_tests) in
    ap (λ (t : Bool). cond t (Err Form) (cond (list_all is_digit token) (in_64_bits (value_after 0 token)) (value_of variables token))) more
    ∙ ap (λ (t : Bool). cond t (in_64_bits (value_after 0 token)) (value_of variables token)) all.0
    ∙ ap in_64_bits all.1 ∙ fits value all.2

-- what begins with another byte is the name of a variable
name_atom : (variables : List Variable) (token : List ℕ) → 0 < length token → is_digit (get_or token 0 0) ≡ false
    → atom variables token ≡ value_of variables token
unfolding atom
name_atom variables [] some is = absurd (omega arith)
name_atom variables (b ∷ bytes) some is =
    let more : (length (b ∷ bytes) == 0) ≡ false = grind (arith, nat_tests) in
    ap (λ (t : Bool). cond t (Err Form) (cond (list_all is_digit (b ∷ bytes)) (in_64_bits (value_after 0 (b ∷ bytes))) (value_of variables (b ∷ bytes)))) more
    ∙ ap (λ (t : Bool). cond (t && list_all is_digit bytes) (in_64_bits (value_after 0 (b ∷ bytes))) (value_of variables (b ∷ bytes))) is

digit_plain : (b : ℕ) → is_digit b ≡ true → is_operator b ≡ false
digit_plain b is = grind (arith, nat_tests)

digits_plain : (n value : ℕ) (bytes : List ℕ) → HasDigits n value bytes → IsPlain bytes
digits_plain n value [] has = tt
digits_plain n value (b ∷ bytes) has = (digit_plain b has.0, digits_plain (10 * n + (b - 48)) value bytes has.1)

-- ---- atoms at the front of a token

record FrontDigits (n value : ℕ) (token rest : List ℕ) : Type 0 where
  front : List ℕ
  has : HasDigits n value front
  whole : token ≡ front ++ rest

front_none : (n value : ℕ) (token rest : List ℕ) → value < 2 ^ 64 → ◌≡◌ {A = ℕ × List ℕ} (n, token) (value, rest) → FrontDigits n value token rest
front_none n value token rest few is = record {
  front = [];
  has = (ap (λ (p : ℕ × List ℕ). p.0) is, few);
  whole = ap (λ (p : ℕ × List ℕ). p.1) is;
}

front_step : (t : Bool) (n value b : ℕ) (bytes rest : List ℕ) → value < 2 ^ 64 → is_digit b ≡ t
    → (number_front (10 * n + (b - 48)) bytes ≡ (value, rest) → FrontDigits (10 * n + (b - 48)) value bytes rest)
    → cond t (number_front (10 * n + (b - 48)) bytes) (n, b ∷ bytes) ≡ (value, rest) → FrontDigits n value (b ∷ bytes) rest
front_step true n value b bytes rest few digit more is =
    let read = more is in
    record {
      front = b ∷ read.front;
      has = (digit, read.has);
      whole = ap (λ (front : List ℕ). b ∷ front) read.whole;
    }
front_step false n value b bytes rest few digit more is = front_none n value (b ∷ bytes) rest few is

front_digits : (n value : ℕ) (token rest : List ℕ) → value < 2 ^ 64 → number_front n token ≡ (value, rest) → FrontDigits n value token rest
front_digits n value [] rest few is = front_none n value [] rest few is
front_digits n value (b ∷ bytes) rest few is =
    front_step (is_digit b) n value b bytes rest few refl (front_digits (10 * n + (b - 48)) value bytes rest few) is

-- one digit more at the front
pub front_more : (n digit : ℕ) (token rest : List ℕ) → BeginsDigit token digit rest
    → number_front n token ≡ number_front (10 * n + (digit - 48)) rest
front_more n digit token rest begins =
    ap (number_front n) begins.whole
    ∙ ap (λ (t : Bool). cond t (number_front (10 * n + (digit - 48)) rest) (n, digit ∷ rest)) begins.is

-- no digit at the front
pub front_ends : (n : ℕ) (token : List ℕ) → BeginsOther token → number_front n token ≡ (n, token)
front_ends n [] other = refl
front_ends n (b ∷ bytes) other = ap (λ (t : Bool). cond t (number_front (10 * n + (b - 48)) bytes) (n, b ∷ bytes)) other

-- a token that begins with a digit begins with a number
digits_read : (variables : List Variable) (value : ℕ) (token rest : List ℕ) → 0 < length token → is_digit (get_or token 0 0) ≡ true
    → value < 2 ^ 64 → number_front 0 token ≡ (value, rest) → ReadsAtom variables token value rest
digits_read variables value [] rest some digit few is = absurd (omega arith)
digits_read variables value (b ∷ bytes) rest some digit few is =
    let read = front_digits (10 * 0 + (b - 48)) value bytes rest few
    (sym (ap (λ (t : Bool). cond t (number_front (10 * 0 + (b - 48)) bytes) (0, b ∷ bytes)) digit) ∙ is) in
    let has : HasDigits 0 value (b ∷ read.front) = (digit, read.has) in
    record {
      front = b ∷ read.front;
      cuts = record { plain = digits_plain 0 value (b ∷ read.front) has; whole = ap (λ (front : List ℕ). b ∷ front) read.whole };
      is = digits_atom variables value (b ∷ read.front) (omega arith) has;
    }

-- the same, of what may be none
pub digits_given : (variables : List Variable) (token : List ℕ) (result : Option (ℕ × Bor (List ℕ))) → 0 < length token
    → is_digit (get_or token 0 0) ≡ true → IfSome result (λ p. IsFront token p.0 p.1.now)
    → IfSome result (λ p. ReadsAtom variables token p.0 p.1.now)
digits_given variables token None some digit is = tt
digits_given variables token (Some p) some digit is = digits_read variables p.0 token p.1.now some digit is.0 is.1

-- and one that begins with a name with the value of a variable
pub name_read : (variables : List Variable) (value : ℕ) (token name rest : List ℕ) → CutsPlain token name rest → 0 < length name
    → is_digit (get_or name 0 0) ≡ false → value_of variables name ≡ Ok value → ReadsAtom variables token value rest
name_read variables value token name rest cuts some other is = record {
  front = name;
  cuts = cuts;
  is = name_atom variables name some other ∙ is;
}
