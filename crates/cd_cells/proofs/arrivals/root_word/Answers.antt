use Rattle.std.proofs.Common.{arith}
use Rattle.cd_cells.proofs.Arriving.{root_allows_at}
use Rattle.cd_cells.proofs.arrivals.root_word.Goals as goal

pub fetch_sub-requires : goal.fetch_sub-requires
fetch_sub-requires g c = (
  c.requires.at.same,
  (let l = c.requires.at.long in let b = c.requires.count in omega arith),
  root_allows_at g.T.Shape.kind c.args.table.now.key c.args.table.now.table_id.slots c.args.seat.now.id c.args.seat.now.me
      c.args.count c.requires.count c.requires.cell.0 c.requires.cell.1 c.requires.held c.args.table.now.table_id c.requires.at.named c.requires.cell.2 c.requires.cell.3,
)
