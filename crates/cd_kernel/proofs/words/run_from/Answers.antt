use Rattle.std.proofs.Common.{arith, sym, ◌∙◌}
use Rattle.cd_field.proofs.RunLemmas.{words_long}
use Rattle.cd_kernel.proofs.Runs.{run_word}
use Rattle.cd_kernel.proofs.words.run_from.Goals as goal

pub returns-clause-long : goal.returns-clause-long
returns-clause-long g c =
    words_long (g.F.Field.model c.args.field.now).words c.part.result c.run.result.now c.run.ensures ∙ sym c.part.ensures.long

pub returns-clause-words : goal.returns-clause-words
returns-clause-words g c j short =
    let long = returns-clause-long g c in
    run_word (g.F.Field.model c.args.field.now).words c.args.range c.part.result c.args.at _ c.run.result.now c.part.ensures.run c.run.ensures
    j (omega (arith, long))
