-- Numbers digit by digit.
use Rattle.std.proofs.Common.{◌≡◌, ℕ, ◌+◌, ◌*◌, ◌-◌, ◌<◌, ◌≤◌, ◌^◌, Bool, true, false, cond, nat_lt, List, [], ◌∷◌, length, drop, get_or, refl, sym, ◌∙◌, arith}
use Rattle.std.specs.Prelude.{Result, Ok, Err}
use Rattle.std.proofs.lemmas.Bool.Decides.{nat_tests}
use Rattle.std.proofs.lemmas.List.{at_drop_more, at_drop_all}
use Rattle.cd_tokens.specs.declared.wrong.Wrong.{Wrong}
use Rattle.cd_tokens.specs.declared.wrong.Wrong.TheVariants.{Overflow}
use Rattle.cd_tokens.specs.Sums.{in_64_bits, value_after}

-- digits make a number no smaller
value_grows : (n : ℕ) (bytes : List ℕ) → n ≤ value_after n bytes
value_grows n [] = omega arith
value_grows n (b ∷ bytes) = omega (arith, value_grows (10 * n + (b - 48)) bytes)

too_great : (n m : ℕ) → n ≤ m → nat_lt n (2 ^ 64) ≡ false → nat_lt m (2 ^ 64) ≡ false
too_great n m h e = grind (arith, nat_tests)

passes_on : (s t : Bool) (n m : ℕ) (w : Wrong) → (s ≡ false → t ≡ false) → cond s (Ok n) (Err Overflow) ≡ Err w → cond t (Ok m) (Err Overflow) ≡ Err w
passes_on true t n m w h e = absurd (cc)
passes_on false true n m w h e = absurd (cc (h refl))
passes_on false false n m w h e = e

-- a number that is too great stays so with further digits
stays_out : (n : ℕ) (bytes : List ℕ) (w : Wrong) → in_64_bits n ≡ Err w → in_64_bits (value_after n bytes) ≡ Err w
stays_out n bytes w e =
    passes_on (nat_lt n (2 ^ 64)) (nat_lt (value_after n bytes) (2 ^ 64)) n (value_after n bytes) w
    (too_great n (value_after n bytes) (value_grows n bytes)) e

-- one digit too much, and there is no number
pub digit_refused : (v i b : ℕ) (digits : List ℕ) (whole : Result ℕ Wrong) (w : Wrong) → i < length digits → get_or digits i 0 ≡ b
    → in_64_bits (value_after v (drop i digits)) ≡ whole → in_64_bits (10 * v + (b - 48)) ≡ Err w → whole ≡ Err w
digit_refused v i b digits whole w h e f n =
    sym f ∙ at_drop_more (λ (xs : List ℕ). in_64_bits (value_after v xs)) digits i 0 h
    ∙ stays_out (10 * v + (get_or digits i 0 - 48)) (drop (i + 1) digits) w (rw e n)

-- behind the last digit the value is the number
pub digits_read : (v i : ℕ) (digits : List ℕ) (whole : Result ℕ Wrong) → length digits ≤ i → v < 2 ^ 64
    → in_64_bits (value_after v (drop i digits)) ≡ whole → Ok v ≡ whole
digits_read v i digits whole h k f =
    sym (kept (nat_lt v (2 ^ 64)) v (grind (arith, nat_tests))) ∙ sym (at_drop_all (λ (xs : List ℕ). in_64_bits (value_after v xs)) digits i h) ∙ f where
      kept : (b : Bool) (n : ℕ) → b ≡ true → cond b (Ok n) (Err Overflow) ≡ Ok n
      kept true n e = refl
      kept false n e = absurd (cc)
