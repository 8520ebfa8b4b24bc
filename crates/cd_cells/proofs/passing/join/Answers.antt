use Rattle.std.proofs.Common.{arith}
use Rattle.cd_cells.proofs.Parting.{joins}
use Rattle.cd_cells.proofs.passing.join.Goals as goal

pub join_seat-requires : goal.join_seat-requires
join_seat-requires g c = (
  c.requires.at.same,
  c.requires.same,
  c.requires.bare,
  (let l = c.requires.at.long in omega arith),
  joins (g.T.Shape.kind c.args.table.now.key) c.args.table.now.key c.args.seat.now.id c.args.seat.now.me.0 c.args.child.id c.args.child.me.0,
)
