use Rattle.std.proofs.Common.{sym, refl, ◌∙◌, ap}
use Rattle.std.specs.Prelude.{Err}
use Rattle.std.proofs.lemmas.Result.{err_from_is_err_and}
use Rattle.cd_tokens.proofs.SumLemmas.{digit_refused, digits_read}
use Rattle.cd_tokens.proofs.sums.digits_value.Goals as goal

pub returns-in_err-value : goal.returns-in_err-value
returns-in_err-value c =
    let p = err_from_is_err_and c.from_residual.result c.from_residual.ensures.1 in
    p.1 ∙ ap Err p.2
    ∙ sym (digit_refused c.loop-digit.value c.loop-digit.digit-index _ c.args.digits.now _ _ c.loop-digit-test.true refl
    c.loop-digit.invariant.left (sym c.with_digit.ensures ∙ c.in_err-value.was))

pub returns : goal.returns
returns c = digits_read c.loop-digit.value c.loop-digit.digit-index c.args.digits.now _ c.loop-digit-test.false c.loop-digit.invariant.fits c.loop-digit.invariant.left
