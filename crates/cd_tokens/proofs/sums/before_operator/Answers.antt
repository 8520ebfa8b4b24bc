use Rattle.std.proofs.Common.{sym, ◌∙◌}
use Rattle.cd_tokens.proofs.QuickLemmas.{cuts_plain_at, cuts_plain_end}
use Rattle.cd_tokens.proofs.sums.before_operator.Goals as goal

pub returns-in-Some : goal.returns-in-Some
returns-in-Some c =
    rw (c.split_at.ensures.front, c.split_at.ensures.back)
    (cuts_plain_at c.args.token.now c.in-Some.at (sym c.find_operator.ensures ∙ c.in-Some.is))

pub returns-in-None : goal.returns-in-None
returns-in-None c =
    rw (c.split_at-in-None.ensures.front, c.split_at-in-None.ensures.back)
    (cuts_plain_end c.args.token.now (sym c.find_operator.ensures ∙ c.in-None.is))
