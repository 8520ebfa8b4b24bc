use Rattle.std.proofs.Common.{sym, ◌∙◌}
use Rattle.cd_tokens.proofs.CutLemmas.{cuts_sign_at, parts_whole}
use Rattle.cd_tokens.proofs.sums.cut_sign.Goals as goal

pub returns-in-Some : goal.returns-in-Some
returns-in-Some c = cuts_sign_at c.args.token.now c.in-Some.at (sym c.find_sign.ensures ∙ c.in-Some.is)

pub returns-in-None : goal.returns-in-None
returns-in-None c = λ sign. parts_whole sign c.args.token.now (sym c.find_sign.ensures ∙ c.in-None.is)
