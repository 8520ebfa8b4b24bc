use Rattle.std.proofs.Common.{◌∙◌}
use Rattle.cd_cells.proofs.Gathered.{gather_step, next_below, owed_next, room_left}
use Rattle.cd_cells.proofs.homing.gather.Goals as goal

pub gather_one-state-requires-clause-at : goal.gather_one-state-requires-clause-at
gather_one-state-requires-clause-at g c = (c.loop-member.invariant.2 c.requires.gathers.0 c.requires.gathers.1 c.requires.gathers.2).at

pub gather_one-state-requires-clause-below : goal.gather_one-state-requires-clause-below
gather_one-state-requires-clause-below g c =
    next_below (g.T.Shape.kind c.args.table.now.key) c.args.table.now.key c.args.table.now.table_id c.loop-member.seat.table_id c.requires.gathers.0 c.requires.gathers.1 c.loop-member.seat.me
    c.args.siblings.now c.loop-member.member-index c.loop-member-test.true c.loop-member.room.items (c.loop-member.invariant.2 c.requires.gathers.0 c.requires.gathers.1 c.requires.gathers.2)

pub gather_one-state-requires-clause-owed : goal.gather_one-state-requires-clause-owed
gather_one-state-requires-clause-owed g c =
    owed_next (g.T.Shape.kind c.args.table.now.key) c.args.table.now.key c.args.table.now.table_id c.loop-member.seat.table_id c.requires.gathers.0 c.requires.gathers.1 c.loop-member.seat.me
    c.args.siblings.now c.loop-member.member-index c.loop-member-test.true c.loop-member.room.items (c.loop-member.invariant.2 c.requires.gathers.0 c.requires.gathers.1 c.requires.gathers.2)

pub loop-member-preserved : goal.loop-member-preserved
loop-member-preserved g c = (
  c.push_reserved.ensures.capacity ∙ c.loop-member.invariant.0,
  room_left c.args.siblings.now c.loop-member.member-index c.loop-member-test.true c.loop-member.room.items c.push_reserved.new.self.items c.gather_one-state.result c.push_reserved.ensures.items
      c.loop-member.room.cap c.push_reserved.new.self.cap c.push_reserved.ensures.capacity c.loop-member.invariant.1,
  λ old node gathers. gather_step (g.T.Shape.kind c.args.table.now.key) c.args.table.now.key c.args.table.now.table_id c.loop-member.seat.table_id old node c.loop-member.seat.me
      c.args.siblings.now c.loop-member.member-index c.loop-member-test.true c.loop-member.room.items (c.loop-member.invariant.2 old node gathers)
      c.gather_one-state.new.seat.table_id c.gather_one-state.new.seat.me c.gather_one-state.result c.push_reserved.new.self.items c.push_reserved.ensures.items
      c.gather_one-state.ensures.at c.gather_one-state.ensures.gathered,
)
