use Rattle.std.proofs.Common.{sym, ◌∙◌}
use Rattle.cd_tokens.proofs.LineLemmas.{lines_cut_slice, lines_whole}
use Rattle.cd_tokens.proofs.lines.cut_line.Goals as goal

pub returns-in-Some-clause-cut : goal.returns-in-Some-clause-cut
returns-in-Some-clause-cut c = lines_cut_slice c.args.text.now c.in-Some.at (sym c.find.ensures ∙ c.in-Some.is)

pub returns-in-None-clause-cut : goal.returns-in-None-clause-cut
returns-in-None-clause-cut c = lines_whole c.args.text.now (sym c.find.ensures ∙ c.in-None.is) c.requires
