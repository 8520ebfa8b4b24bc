use Rattle.std.proofs.Common.{sym, ◌∙◌}
use Rattle.cd_tokens.proofs.CutLemmas.{cuts_at, is_uncut}
use Rattle.cd_tokens.proofs.sums.cut.Goals as goal

pub returns-in-Some : goal.returns-in-Some
returns-in-Some c = cuts_at c.args.wanted c.args.token.now c.in-Some.at (sym c.find.ensures ∙ c.in-Some.is)

pub returns-in-None : goal.returns-in-None
returns-in-None c = is_uncut c.args.wanted c.args.token.now (sym c.find.ensures ∙ c.in-None.is)
