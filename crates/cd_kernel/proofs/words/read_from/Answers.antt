use Rattle.std.proofs.Common.{arith}
use Rattle.cd_kernel.proofs.Runs.{run_word}
use Rattle.cd_kernel.proofs.words.read_from.Goals as goal

pub returns : goal.returns
returns g c j short =
    run_word (g.F.Field.model c.args.field.now).words c.args.range c.part.result c.args.at _ c.read_run.new.words c.part.ensures.run
    c.read_run.ensures j (omega arith)
