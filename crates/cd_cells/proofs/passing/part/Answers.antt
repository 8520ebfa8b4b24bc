use Rattle.std.proofs.Common.{arith}
use Rattle.cd_cells.proofs.Parting.{splits}
use Rattle.cd_cells.proofs.passing.part.Goals as goal

pub split_seat-requires : goal.split_seat-requires
split_seat-requires g c = (
  c.requires.at.same,
  (let l = c.requires.at.long in omega arith),
  splits (g.T.Shape.kind c.args.table.now.key) c.args.table.now.key c.args.seat.now.id c.args.seat.now.me.0,
)
