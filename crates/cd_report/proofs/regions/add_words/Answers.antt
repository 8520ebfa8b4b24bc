use Rattle.std.proofs.Common.{◌++◌, string_bytes}
use Rattle.cd_report.specs.Texts.{listed, words_from}
use Rattle.cd_report.proofs.TextLemmas.{listed_word}
use Rattle.cd_report.proofs.regions.add_words.Goals as goal

pub loop-index-preserved : goal.loop-index-preserved
loop-index-preserved g c =
    listed_word (g.F.Field.model c.args.machine.now).words c.args.region c.loop-index.index c.args.length c.word-word.result
    (string_bytes c.loop-index.text) (string_bytes c.push_str.new.self) (string_bytes c.in_ok-format.field-0) c.deref.result.now
    (string_bytes c.args.text.now ++ listed (words_from (g.F.Field.model c.args.machine.now).words c.args.region 0 c.args.length))
    c.loop-index-test.true c.word-word.ensures c.loop-index.invariant c.in_ok-format.ensures.ok c.deref.ensures c.in_ok-push_str.ensures.bytes
