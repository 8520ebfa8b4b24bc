use Rattle.std.proofs.Common.{rules, sym}
use Rattle.cd_tokens.proofs.NameLemmas.{short_text, long_text, empty_text}
use Rattle.cd_tokens.proofs.names.+is_numbered.Goals as goal

pub returns-in-None : goal.returns-in-None
returns-in-None t c = sym (empty_text c.args.text.now c.args.base.now c.args.number (search rules) c.in-None.ensures.cases)

pub returns-in-Some : goal.returns-in-Some
returns-in-Some t c =
    rw (c.from.ensures, c.eq-begins.ensures) (sym (short_text c.args.text.now c.args.base.now c.in-Some.before.now c.in-Some.last.now c.args.number (search rules)
    c.if-number-lt10.true c.in-Some.ensures.cases.0))

pub returns-in-Some-2 : goal.returns-in-Some-2
returns-in-Some-2 t c =
    rw (c.from-in-Some-2.ensures, c.is_numbered-begins.ensures) (sym (long_text c.args.text.now c.args.base.now c.in-Some.before.now c.in-Some.last.now c.args.number (search rules)
    c.if-number-lt10.false c.in-Some.ensures.cases.0))
