use Rattle.std.proofs.Common.{arith}
use Rattle.cd_cells.proofs.Sending.{post_allows}
use Rattle.cd_cells.proofs.steps.post_word.Goals as goal

pub store-requires : goal.store-requires
store-requires g c = (
  c.requires.at.same,
  (let l = c.requires.at.long in let b = c.requires.below in omega arith),
  post_allows g.T.Shape.kind c.args.table.now.key c.args.table.now.table_id.slots c.args.seat.now.id c.args.seat.now.me c.args.node.0
      c.requires.below c.requires.cell.0 c.requires.cell.1 c.requires.turned c.args.table.now.table_id c.requires.at.named
      c.requires.cell.2 c.requires.cell.3,
)
