use Rattle.cd_cells.proofs.Gathered.{gather_from}
use Rattle.cd_cells.proofs.homing.come_home.Goals as goal

pub gather-requires-clause-gathers : goal.gather-requires-clause-gathers
gather-requires-clause-gathers g c = (
  c.args.seat.now.me.0,
  c.args.node.0,
  gather_from (g.T.Shape.kind c.args.table.now.key) c.args.table.now.key c.args.table.now.table_id c.member_home.new.seat.table_id c.args.seat.now.me.0 c.args.node.0 c.member_home.new.seat.me
      (c.member_home.ensures.last c.if-member_home-eq1.true) c.args.siblings.now c.requires.siblings c.args.room.now.items c.requires.room.0,
)

pub go_on-requires-clause-gathers : goal.go_on-requires-clause-gathers
go_on-requires-clause-gathers g c = (
  c.args.seat.now.me.0,
  c.gather.ensures.gathers c.args.seat.now.me.0 c.args.node.0
      (gather_from (g.T.Shape.kind c.args.table.now.key) c.args.table.now.key c.args.table.now.table_id c.member_home.new.seat.table_id c.args.seat.now.me.0 c.args.node.0 c.member_home.new.seat.me
      (c.member_home.ensures.last c.if-member_home-eq1.true) c.args.siblings.now c.requires.siblings c.args.room.now.items c.requires.room.0),
)
