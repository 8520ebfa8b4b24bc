use Rattle.std.proofs.Common.{[]}
use Rattle.cd_speed.proofs.cells.is_over.Goals as goal

pub returns : goal.returns
returns c = (c.stopped.ensures.met [] [] c.requires).1.now
