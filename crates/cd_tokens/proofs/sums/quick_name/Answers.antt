use Rattle.std.proofs.Common.{◌≡◌, ◌<◌, false, length, get_or, sym, ◌∙◌, arith}
use Rattle.std.proofs.lemmas.Bool.Decides.{nat_tests}
use Rattle.cd_tokens.specs.Sums.{is_digit}
use Rattle.cd_tokens.proofs.QuickLemmas.{name_read}
use Rattle.cd_tokens.proofs.sums.quick_name.Goals as goal

pub returns : goal.returns
returns c =
    let some : 0 < length c.before_operator.result.0.now = grind (arith, nat_tests, c.if-is_empty.ensures) in
    let other : is_digit (get_or c.before_operator.result.0.now 0 0) ≡ false = sym c.is_digit.ensures ∙ c.if-is_digit.false in
    name_read c.args.variables.now c.in_ok-quick_value.field-0 c.args.token.now c.before_operator.result.0.now
    c.before_operator.result.1.now c.before_operator.ensures some other c.in_ok-quick_value.ensures
