use Rattle.std.proofs.Common.{arith, sym, ◌∙◌}
use Rattle.cd_field.proofs.RunLemmas.{read_all, read_more, words_long}
use Rattle.cd_field.proofs.field.Field.read_run.Goals as goal

pub copy_from_slice-requires : goal.copy_from_slice-requires
copy_from_slice-requires g c =
    c.requires.long ∙ sym (words_long (g.Self.Field.model c.args.self.now).words c.args.range c.in-Some.lent.now c.in-Some.ensures)

pub loop-index-preserved : goal.loop-index-preserved
loop-index-preserved g c =
    read_more (g.Self.Field.model c.args.self.now).words c.args.range c.loop-index.words c.loop-index.index c.read.result
    (omega arith) (omega arith) c.read.ensures c.loop-index.invariant

pub returns : goal.returns
returns g c =
    read_all (g.Self.Field.model c.args.self.now).words c.args.range c.loop-index.words (omega arith)
    (λ j short. c.loop-index.invariant j (omega arith))
