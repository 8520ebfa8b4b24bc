use Rattle.cd_base.specs.Words.{word_of}
use Rattle.cd_report.specs.Texts.{weighted, words_from}
use Rattle.cd_report.proofs.TextLemmas.{weighted_word}
use Rattle.cd_report.proofs.regions.weighted_sum_of.Goals as goal

pub loop-index-preserved : goal.loop-index-preserved
loop-index-preserved g c =
    weighted_word (g.F.Field.model c.args.machine.now).words c.args.region c.loop-index.index c.args.length c.loop-index.sum c.from.result c.word-word.result
    (word_of (weighted 1 (words_from (g.F.Field.model c.args.machine.now).words c.args.region 0 c.args.length)))
    c.loop-index-test.true c.from.ensures c.word-word.ensures c.loop-index.invariant
