use Rattle.std.proofs.Common.{arith}
use Rattle.cd_cells.proofs.Sending.{turn_allows}
use Rattle.cd_cells.proofs.steps.turn.Goals as goal

pub store-requires : goal.store-requires
store-requires g c = (
  c.requires.at.same,
  (let l = c.requires.at.long in let b = c.requires.below in omega arith),
  turn_allows g.T.Shape.kind c.args.table.now.key c.args.table.now.table_id.slots c.args.seat.now.id c.args.seat.now.me c.args.node.0
      c.requires.below c.requires.right c.requires.named,
)
