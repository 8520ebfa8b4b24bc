use Rattle.cd_cover.proofs.Feet.{least_written}
use Rattle.cd_cover.proofs.written.first_of_domain.Goals as goal

pub returns : goal.returns
returns c =
    least_written c.args.program.now.tree.now c.requires.program.sound c.args.program.now.feet.now c.requires.program.footprints c.args.node c.requires.node c.writes.result.now
    c.args.range c.first_in.result c.writes.ensures c.first_in.ensures
