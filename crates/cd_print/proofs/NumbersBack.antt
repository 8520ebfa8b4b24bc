-- A number's text is read as the number.
use Rattle.std.proofs.Common.{◌≡◌, ℕ, ◌+◌, ◌*◌, ◌-◌, ◌/◌, ◌%◌, ◌^◌, ◌<◌, ◌≤◌, Bool, true, false, cond, nat_lt, ◌&&◌, List, [], ◌∷◌, ◌++◌, length, drop, Some, refl, ap, ◌∙◌, arith, length-append}
use Rattle.std.specs.Prelude.{Result, Ok, Err, ◌==◌}
use Rattle.std.specs.Fmt.{decimal}
use Rattle.std.specs.List.{list_all, position}
use Rattle.std.proofs.lemmas.Bool.Decides.{nat_tests}
use Rattle.std.proofs.lemmas.Fmt.{decimal_by_steps}
use Rattle.cd_tokens.specs.declared.wrong.Wrong.{Wrong}
use Rattle.cd_tokens.specs.declared.wrong.Wrong.TheVariants.{Form, Overflow}
use Rattle.cd_tokens.specs.Wrongs.{both, ◌>>=◌}
use Rattle.cd_tokens.specs.Sums.{is_digit, in_64_bits, value_after, value_of, atom, is_times, times, product_on, term, is_sign, Part, put_byte, cut_at_signs, joined, plus, sum_on, expression, is_dot, behind_dot, two_numbers, bounds_at}
use Rattle.cd_print.proofs.Cuts.{chosen, otherwise, No, uncut, found_at, take_before, drop_behind}
use Rattle.cd_print.proofs.LinesBack.{Plain}

abbrev pub Digits : List ℕ → Type 0
Digits [] = Unit {0}
Digits (b ∷ bytes) = (48 ≤ b) × (b ≤ 57) × Digits bytes

digits_more : (digits : List ℕ) (b : ℕ) → Digits digits → 48 ≤ b → b ≤ 57 → Digits (digits ++ b ∷ [])
digits_more [] b h low high = (low, high, tt)
digits_more (c ∷ digits) b h low high = (h.0, h.1, digits_more digits b h.2 low high)

value_more : (n : ℕ) (digits : List ℕ) (b : ℕ) → value_after n (digits ++ b ∷ []) ≡ 10 * value_after n digits + (b - 48)
value_more n [] b = refl
value_more n (c ∷ digits) b = value_more (10 * n + (c - 48)) digits b

-- digits, at least one, whose value this is
record Says (n : ℕ) (digits : List ℕ) : Type 0 where
  some : 0 < length digits
  shape : Digits digits
  value : value_after 0 digits ≡ n

says_one : (n : ℕ) → n < 10 → Says n ((48 + n) ∷ [])
says_one n h = record { some = omega arith; shape = (omega arith, omega arith, tt); value = omega arith }

says_more : (n : ℕ) (digits : List ℕ) → 10 ≤ n → Says (n / 10) digits → Says n (digits ++ ((48 + n % 10) ∷ []))
says_more n digits h s = record {
  some = omega (arith, length-append digits ((48 + n % 10) ∷ []));
  shape = digits_more digits (48 + n % 10) s.shape (omega arith) (omega arith);
  value = omega (arith, value_more 0 digits (48 + n % 10), s.value);
}

says_itself : (n : ℕ) → n < 2 ^ 64 → Says n (decimal n)
says_itself n h = decimal_by_steps Says says_one says_more n h

pub decimal_some : (n : ℕ) → n < 2 ^ 64 → 0 < length (decimal n)
decimal_some n h = (says_itself n h).some

pub decimal_digits : (n : ℕ) → n < 2 ^ 64 → Digits (decimal n)
decimal_digits n h = (says_itself n h).shape

pub digits_plain : (digits : List ℕ) → Digits digits → Plain digits
digits_plain [] h = tt
digits_plain (b ∷ digits) h = (omega (arith, h.0), digits_plain digits h.2)

pub digits_pass_not : (test : ℕ → Bool) → ((b : ℕ) → 48 ≤ b → b ≤ 57 → test b ≡ false) → (digits : List ℕ) → Digits digits → No test digits
digits_pass_not test out [] h = tt
digits_pass_not test out (b ∷ digits) h = (out b h.0 h.1, digits_pass_not test out digits h.2)

-- ---- an expression that is one number

no_times : (b : ℕ) → 48 ≤ b → b ≤ 57 → is_times b ≡ false
no_times b low high = grind (arith, nat_tests)

no_sign : (b : ℕ) → 48 ≤ b → b ≤ 57 → is_sign b ≡ false
no_sign b low high = grind (arith, nat_tests)

no_dot : (b : ℕ) → 48 ≤ b → b ≤ 57 → is_dot b ≡ false
no_dot b low high = grind (arith, nat_tests)

a_digit : (b : ℕ) → 48 ≤ b → b ≤ 57 → is_digit b ≡ true
a_digit b low high = grind (arith, nat_tests)

both_hold : (a b : Bool) → a ≡ true → b ≡ true → (a && b) ≡ true
both_hold true b e f = f
both_hold false b e f = absurd (cc)

all_digits : (digits : List ℕ) → Digits digits → list_all is_digit digits ≡ true
all_digits [] h = refl
all_digits (b ∷ digits) h = both_hold (is_digit b) (list_all is_digit digits) (a_digit b h.0 h.1) (all_digits digits h.2)

signs_not : (digits : List ℕ) → Digits digits → cut_at_signs digits ≡ (digits, [])
signs_not [] h = refl
signs_not (b ∷ digits) h =
    ap (λ (t : Bool). put_byte t b (cut_at_signs digits)) (no_sign b h.0 h.1) ∙ ap (put_byte false b) (signs_not digits h.2)

fits_64 : (n : ℕ) → n < 2 ^ 64 → in_64_bits n ≡ Ok n
fits_64 n h = chosen (nat_lt n (2 ^ 64)) (Ok n) (Err Overflow) (grind (arith, nat_tests))

atom_read : (digits : List ℕ) (n : ℕ) → n < 2 ^ 64 → Says n digits → atom [] digits ≡ Ok n
unfolding atom
atom_read digits n h s =
    let some : 0 < length digits = s.some in
    otherwise (length digits == 0) (Err Form) (cond (list_all is_digit digits) (in_64_bits (value_after 0 digits)) (value_of [] digits)) (grind (arith, nat_tests))
    ∙ chosen (list_all is_digit digits) (in_64_bits (value_after 0 digits)) (value_of [] digits) (all_digits digits s.shape)
    ∙ ap in_64_bits s.value ∙ fits_64 n h

term_read : (digits : List ℕ) (n : ℕ) → n < 2 ^ 64 → Says n digits → term [] digits ≡ Ok n
unfolding term times
term_read digits n h s =
    let one : 1 * n ≡ n = omega arith in
    ap (product_on [] (Ok 1)) (uncut is_times digits (digits_pass_not is_times no_times digits s.shape))
    ∙ ap (λ (factor : Result ℕ Wrong). both (Ok 1) factor >>= λ p. in_64_bits (p.0 * p.1)) (atom_read digits n h s)
    ∙ ap in_64_bits one ∙ fits_64 n h

sum_read : (digits : List ℕ) (n : ℕ) → n < 2 ^ 64 → Says n digits → expression [] digits ≡ Ok n
unfolding expression plus
sum_read digits n h s =
    let none : 0 + n ≡ n = omega arith in
    ap (λ (cut : List ℕ × List Part). sum_on [] (Ok 0) (record { sign = 43; token = cut.0 } ∷ cut.1)) (signs_not digits s.shape)
    ∙ ap (λ (t : Result ℕ Wrong). both (Ok 0) t >>= λ p. joined 43 p.0 p.1) (term_read digits n h s)
    ∙ ap in_64_bits none ∙ fits_64 n h

pub number_read : (n : ℕ) → n < 2 ^ 64 → expression [] (decimal n) ≡ Ok n
number_read n h = sum_read (decimal n) n h (says_itself n h)

-- ---- two numbers

pub first_dot : (low : ℕ) (rest : List ℕ) → low < 2 ^ 64 → position is_dot (decimal low ++ 46 ∷ rest) ≡ Some (length (decimal low))
first_dot low rest h = found_at is_dot (decimal low) 46 rest (digits_pass_not is_dot no_dot (decimal low) (decimal_digits low h)) refl

pub bounds_read : (low high : ℕ) → low < 2 ^ 64 → high < 2 ^ 64
    → bounds_at [] (decimal low ++ 46 ∷ 46 ∷ decimal high) (Some (length (decimal low))) ≡ Ok (low, high)
bounds_read low high h k =
    ap (λ (token : List ℕ). two_numbers [] token (behind_dot (drop (length (decimal low) + 1) (decimal low ++ 46 ∷ 46 ∷ decimal high)))) (take_before (decimal low) (46 ∷ 46 ∷ decimal high))
    ∙ ap (λ (rest : List ℕ). two_numbers [] (decimal low) (behind_dot rest)) (drop_behind (decimal low) 46 (46 ∷ decimal high))
    ∙ ap (λ (r : Result ℕ Wrong). both r (expression [] (decimal high))) (number_read low h)
    ∙ ap (λ (r : Result ℕ Wrong). both (Ok low) r) (number_read high k)
