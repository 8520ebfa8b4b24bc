use Rattle.std.proofs.Common.{arith}
use Rattle.cd_cells.proofs.Closing.{look_allows}
use Rattle.cd_cells.proofs.passing.look.Goals as goal

pub load-requires : goal.load-requires
load-requires g c = (c.requires.at.same, (let l = c.requires.at.long in omega arith), look_allows g.T.Shape.kind c.args.table.now.key c.args.table.now.table_id.slots c.args.seat.now.id c.args.seat.now.me)
