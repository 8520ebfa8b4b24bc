use Rattle.std.proofs.Common.{arith}
use Rattle.cd_cells.proofs.Closing.{stop_allows}
use Rattle.cd_cells.proofs.passing.stop.Goals as goal

pub fetch_or-requires : goal.fetch_or-requires
fetch_or-requires g c = (c.requires.at.same, (let l = c.requires.at.long in omega arith), stop_allows g.T.Shape.kind c.args.table.now.key c.args.table.now.table_id.slots c.args.seat.now.id c.args.seat.now.me)
