use Rattle.std.proofs.Common.{◌≡◌, ◌<◌, true, length, get_or, sym, ◌∙◌, arith}
use Rattle.std.proofs.lemmas.Bool.Decides.{nat_tests}
use Rattle.cd_tokens.specs.Sums.{is_digit}
use Rattle.cd_tokens.proofs.QuickLemmas.{digits_given}
use Rattle.cd_tokens.proofs.sums.quick_atom.Goals as goal

pub returns-then-is_digit : goal.returns-then-is_digit
returns-then-is_digit c =
    let some : 0 < length c.args.token.now = grind (arith, nat_tests, c.if-is_empty.ensures) in
    let digit : is_digit (get_or c.args.token.now 0 0) ≡ true = sym c.is_digit.ensures ∙ c.if-is_digit.true in
    digits_given c.args.variables.now c.args.token.now c.quick_digits.result some digit c.quick_digits.ensures
