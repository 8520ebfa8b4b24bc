use Rattle.std.proofs.Common.{refl}
use Rattle.cd_cells.proofs.Gathered.{parent_owed, cleared_each, own_cleared, has_room, goes_on}
use Rattle.cd_cells.proofs.homing.go_on.Goals as goal

pub resume-state-requires-clause-last : goal.resume-state-requires-clause-last
resume-state-requires-clause-last g c =
    parent_owed (g.T.Shape.kind c.args.table.now.key) c.args.table.now.key c.args.table.now.table_id c.args.seat.now.table_id c.requires.gathers.0 c.args.node.0 c.args.seat.now.me c.args.room.now.items
    c.requires.gathers.1 c.args.parent.0 c.requires.parent

pub resume-state-requires-clause-cleared : goal.resume-state-requires-clause-cleared
resume-state-requires-clause-cleared g c =
    own_cleared (g.T.Shape.kind c.args.table.now.key) c.args.table.now.key c.args.table.now.table_id c.args.seat.now.table_id c.requires.gathers.0 c.args.node.0 c.args.seat.now.me c.args.room.now.items
    c.requires.gathers.1

pub resume-state-requires-clause-all : goal.resume-state-requires-clause-all
resume-state-requires-clause-all g c =
    cleared_each (g.T.Shape.kind c.args.table.now.key) c.args.table.now.key c.args.table.now.table_id c.args.seat.now.table_id c.requires.gathers.0 c.args.node.0 c.args.seat.now.me c.args.room.now.items
    c.requires.gathers.1

pub move_all-requires : goal.move_all-requires
move_all-requires g c =
    has_room (g.T.Shape.kind c.args.table.now.key) c.args.table.now.key c.args.table.now.table_id c.args.seat.now.table_id c.requires.gathers.0 c.args.node.0 c.args.seat.now.me c.args.room.now.items
    c.requires.gathers.1 c.requires.lawful c.args.parent.0 c.requires.parent c.resume-state.new.seat.me c.resume-state.result c.resume-state.ensures.resumed

pub returns-clause-last : goal.returns-clause-last
returns-clause-last g c = λ old gathers.
    goes_on (g.T.Shape.kind c.args.table.now.key) c.args.table.now.key c.args.table.now.table_id c.args.seat.now.table_id old.0 c.args.node.0 c.args.seat.now.me c.args.room.now.items
    gathers c.requires.lawful c.args.parent.0 c.requires.parent c.resume-state.new.seat.me c.resume-state.result c.resume-state.ensures.resumed
    c.resume-state.new.seat.table_id old refl c.requires.above c.resume-state.ensures.at c.move_all.new.list.items c.move_all.ensures.items
