use Rattle.cd_cells.proofs.Gathered.{ticket_now, still_in_hand, one_taken, one_named, one_gathered}
use Rattle.cd_cells.proofs.homing.gather_one.Goals as goal

pub clear-requires-clause-hand : goal.clear-requires-clause-hand
clear-requires-clause-hand g c =
    let told = c.take-state.ensures.taken in
    let joined = c.join_ticket.ensures.me told.ask (ticket_now (g.T.Shape.kind c.args.table.now.key) c.args.table.now.key c.args.seat.now.me c.take-state.new.seat.me c.args.node.0 c.take-state.result told) in
    still_in_hand (g.T.Shape.kind c.args.table.now.key) c.args.table.now.key c.args.seat.now.me c.take-state.new.seat.me c.args.node.0 c.take-state.result told
    c.join_ticket.new.seat.me joined

pub clear-requires-clause-taken : goal.clear-requires-clause-taken
clear-requires-clause-taken g c =
    let told = c.take-state.ensures.taken in
    let joined = c.join_ticket.ensures.me told.ask (ticket_now (g.T.Shape.kind c.args.table.now.key) c.args.table.now.key c.args.seat.now.me c.take-state.new.seat.me c.args.node.0 c.take-state.result told) in
    one_taken (g.T.Shape.kind c.args.table.now.key) c.args.table.now.key c.args.seat.now.me c.take-state.new.seat.me c.args.node.0 c.take-state.result told
    c.join_ticket.new.seat.me joined

pub clear-requires-clause-named : goal.clear-requires-clause-named
clear-requires-clause-named g c =
    let told = c.take-state.ensures.taken in
    let joined = c.join_ticket.ensures.me told.ask (ticket_now (g.T.Shape.kind c.args.table.now.key) c.args.table.now.key c.args.seat.now.me c.take-state.new.seat.me c.args.node.0 c.take-state.result told) in
    one_named (g.T.Shape.kind c.args.table.now.key) c.args.table.now.key c.args.seat.now.me c.take-state.new.seat.me c.args.node.0 c.take-state.result told
    c.join_ticket.new.seat.me joined

pub returns-clause-gathered : goal.returns-clause-gathered
returns-clause-gathered g c =
    let told = c.take-state.ensures.taken in
    let joined = c.join_ticket.ensures.me told.ask (ticket_now (g.T.Shape.kind c.args.table.now.key) c.args.table.now.key c.args.seat.now.me c.take-state.new.seat.me c.args.node.0 c.take-state.result told) in
    one_gathered (g.T.Shape.kind c.args.table.now.key) c.args.table.now.key c.args.seat.now.me c.take-state.new.seat.me c.args.node.0 c.take-state.result told
    c.join_ticket.new.seat.me joined c.clear.new.seat.me c.clear.ensures.me
