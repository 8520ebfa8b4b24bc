use Rattle.std.proofs.Common.{sym, ◌∙◌}
use Rattle.cd_tokens.proofs.WrongLemmas.{all_held}
use Rattle.cd_tokens.proofs.wrong.all_hold.Goals as goal

pub returns-then-are_held : goal.returns-then-are_held
returns-then-are_held c = all_held c.args.tests.now (sym c.are_held.ensures ∙ c.if-are_held.true)
