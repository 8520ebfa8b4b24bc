use Rattle.std.proofs.Common.{ap}
use Rattle.cd_cells.proofs.PassLemmas.{rested_has}
use Rattle.cd_cells.proofs.cell_pass.CellPass.rest.Goals as goal

pub returns-clause-now : goal.returns-clause-now
returns-clause-now g c = λ ask may w. record {
  lawful = w.now.lawful;
  count = w.now.count;
  has = rested_has g.T.Shape.kind c.args.self.now c.deref.result.now.shared.key c.deref.result.now.shared.table_id c.put_to_rest.new.seat.table_id
      c.put_to_rest.new.seat.me c.put_to_rest.new.ticket ask may c.args.node.0 c.args.state (ap (λ table. table.shared.key) c.deref.ensures)
      (ap (λ table. table.shared.table_id) c.deref.ensures) w (c.put_to_rest.ensures.has ask may);
  bare = w.now.bare;
  room = w.now.room;
}
