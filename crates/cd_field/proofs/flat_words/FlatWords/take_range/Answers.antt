use Rattle.std.proofs.Common.{◌∙◌}
use Rattle.cd_field.specs.Flat.{flat_words}
use Rattle.cd_field.proofs.RunLemmas.{laid_others}
use Rattle.cd_field.proofs.flat_words.FlatWords.take_range.Goals as goal

pub returns-clause-words : goal.returns-clause-words
returns-clause-words c q =
    c.put_back_run.ensures.words q
    ∙ laid_others (flat_words c.args.others.now) (flat_words c.args.self.now) c.args.range c.run.result.now q c.run.ensures.words c.requires.given
