use Rattle.std.proofs.Common.{arith}
use Rattle.cd_cells.proofs.Emptying.{clear_allows}
use Rattle.cd_cells.proofs.arrivals.clear.Goals as goal

pub store-requires : goal.store-requires
store-requires g c = (
  c.requires.at.same,
  (let l = c.requires.at.long in let b = c.requires.below in omega arith),
  clear_allows g.T.Shape.kind c.args.table.now.key c.args.table.now.table_id.slots c.args.seat.now.id c.args.seat.now.me
      c.args.node.0 c.requires.below c.requires.hand c.requires.taken c.requires.named,
)
