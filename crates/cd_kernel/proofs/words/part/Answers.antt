use Rattle.std.proofs.Common.{refl}
use Rattle.cd_kernel.specs.Computing.{run_of}
use Rattle.cd_kernel.proofs.Runs.{run_present}
use Rattle.cd_kernel.proofs.words.part.Goals as goal

pub returns-clause-present : goal.returns-clause-present
returns-clause-present c m here =
    run_present m c.args.range (run_of c.args.range c.args.at c.args.count) c.args.at c.args.count refl c.requires here
