use Rattle.std.proofs.Common.{sum}
use Rattle.cd_base.specs.Words.{word_of}
use Rattle.cd_report.specs.Texts.{words_from}
use Rattle.cd_report.proofs.TextLemmas.{sum_word}
use Rattle.cd_report.proofs.regions.sum_of.Goals as goal

pub loop-index-preserved : goal.loop-index-preserved
loop-index-preserved g c =
    sum_word (g.F.Field.model c.args.machine.now).words c.args.region c.loop-index.index c.args.length c.loop-index.sum c.word-sum.result
    (word_of (sum (words_from (g.F.Field.model c.args.machine.now).words c.args.region 0 c.args.length)))
    c.loop-index-test.true c.word-sum.ensures c.loop-index.invariant
