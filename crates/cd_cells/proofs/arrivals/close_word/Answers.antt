use Rattle.std.proofs.Common.{arith}
use Rattle.cd_cells.proofs.Closing.{close_allows_at}
use Rattle.cd_cells.proofs.arrivals.close_word.Goals as goal

pub compare_exchange-requires : goal.compare_exchange-requires
compare_exchange-requires g c = (
  c.requires.at.same,
  (let l = c.requires.at.long in let b = c.requires.count in omega arith),
  close_allows_at g.T.Shape.kind c.args.table.now.key c.args.table.now.table_id.slots c.args.seat.now.id c.args.seat.now.me
      c.args.count c.requires.count c.requires.at.key_is c.args.table.now.table_id c.requires.at.named,
)

pub returns-clause-won : goal.returns-clause-won
returns-clause-won g c = λ e. (c.compare_exchange.ensures.2 c.args.table.now.key c.requires.at.key_is).0 e
