use Rattle.std.proofs.Common.{◌≡◌, ◌<◌, ◌^◌, drop}
use Rattle.cd_tokens.specs.Sums.{in_64_bits, value_after}
use Rattle.cd_tokens.proofs.sums.digits_value.Given as goal

abbrev pub invariant-loop-digit : goal.invariant-loop-digit
invariant-loop-digit l = record {
  fits : l.value < 2 ^ 64;
  left : in_64_bits (value_after l.value (drop l.digit-index l.digits)) ≡ in_64_bits (value_after 0 l.digits);
}
