use Rattle.std.proofs.Common.{arith, ap}
use Rattle.cd_cells.proofs.Resting.{rest_allows}
use Rattle.cd_cells.proofs.Handing.{still_at}
use Rattle.cd_cells.proofs.steps.rest_word.Goals as goal

pub store-requires : goal.store-requires
store-requires g c = (
  c.requires.at.same,
  (let l = c.requires.at.long in let b = c.requires.below in omega arith),
  rest_allows g.T.Shape.kind c.args.table.now.key c.args.table.now.table_id.slots c.args.seat.now.id c.args.seat.now.me
      c.args.node.0 c.requires.below c.requires.at.key_is c.requires.cell.0 c.requires.cell.1 c.requires.held c.args.table.now.table_id c.requires.at.named
      c.requires.cell.2 c.requires.cell.3 c.requires.cell.4 c.args.members c.requires.cell.5,
)

pub returns-clause-at : goal.returns-clause-at
returns-clause-at g c =
    let told = c.store.ensures.2 c.args.table.now.key c.requires.at.key_is c.args.node.0 c.requires.cell.0 c.requires.cell.1 in
    still_at (g.T.Shape.kind c.args.table.now.key) c.args.table.now.key c.args.table.now.table_id c.args.seat.now.table_id c.args.seat.now.me.0 c.requires.at
    c.store.new.seat.table_id c.store.ensures.0 c.store.new.seat.me.0 (ap (λ m. m.0.key) told) (ap (λ m. m.0.table) told)
