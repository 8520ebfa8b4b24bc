use Rattle.std.proofs.Common.{◌<◌, [], ◌∷◌, None, sym, ap, subst, ◌∙◌}
use Rattle.cd_cells.specs.Places.Sort.{turns, names}
use Rattle.cd_cells.specs.Listing.{find}
use Rattle.cd_cells.specs.Views.{tally, naming}
use Rattle.cd_cells.specs.Rule.{Ticketed}
use Rattle.cd_cells.specs.Steps.{Sat, bare, homing, with_view, unnaming, posting}
use Rattle.cd_cells.proofs.Handing.{taken_in_hand}
use Rattle.cd_cells.proofs.Rows.{turned_there, turned_after, found_first, sent, still_named, ticket_of}
use Rattle.cd_cells.proofs.steps.send.Goals as goal

pub ticket-place-requires-clause-turned : goal.ticket-place-requires-clause-turned
ticket-place-requires-clause-turned g c =
    subst (λ (m : Sat g.row.K.Denot g.row.T.Denot). 0 < tally turns c.args.node.0 m.0) (sym c.turn.ensures.me)
    (turned_there c.args.seat.now.me.0 c.args.node.0 c.requires.named)

pub ticket-place-requires-clause-named : goal.ticket-place-requires-clause-named
ticket-place-requires-clause-named g c =
    subst (λ (m : Sat g.row.K.Denot g.row.T.Denot). 0 < tally names c.args.node.0 m.0) (sym c.turn.ensures.me)
    (still_named c.args.seat.now.me.0 c.args.node.0 c.requires.named)

pub post-requires-clause-turned : goal.post-requires-clause-turned
post-requires-clause-turned g c =
    let now = c.ticket-place.ensures.me ∙ ap (λ (m : Sat g.row.K.Denot g.row.T.Denot). with_view m (unnaming m.0 c.args.node.0)) c.turn.ensures.me in
    subst (λ (m : Sat g.row.K.Denot g.row.T.Denot). 0 < tally turns c.args.node.0 m.0) (sym now) (turned_after c.args.seat.now.me.0 c.args.node.0 c.requires.named)

pub post-requires-clause-hand : goal.post-requires-clause-hand
post-requires-clause-hand g c =
    let now = c.ticket-place.ensures.me ∙ ap (λ (m : Sat g.row.K.Denot g.row.T.Denot). with_view m (unnaming m.0 c.args.node.0)) c.turn.ensures.me in
    taken_in_hand c.ticket-place.new.seat.me c.args.node.0 None now

pub post-requires-clause-ready : goal.post-requires-clause-ready
post-requires-clause-ready g c =
    let now = c.ticket-place.ensures.me ∙ ap (λ (m : Sat g.row.K.Denot g.row.T.Denot). with_view m (unnaming m.0 c.args.node.0)) c.turn.ensures.me in
    subst (λ (m : Sat g.row.K.Denot g.row.T.Denot). (g.T.Shape.kind c.args.table.now.key).Ready (find c.args.node.0 m.0.turns) c.args.state) (sym now)
    (subst (λ a. (g.T.Shape.kind c.args.table.now.key).Ready a c.args.state) (sym (found_first c.args.seat.now.me.0 c.args.node.0 c.requires.named)) c.requires.ready)

pub post-requires-clause-ticket : goal.post-requires-clause-ticket
post-requires-clause-ticket g c =
    let now = c.ticket-place.ensures.me ∙ ap (λ (m : Sat g.row.K.Denot g.row.T.Denot). with_view m (unnaming m.0 c.args.node.0)) c.turn.ensures.me in
    let place = c.ticket-place.ensures.ticket
    ∙ ap (λ (m : Sat g.row.K.Denot g.row.T.Denot). bare (naming m.0.key m.0.table (find c.args.node.0 m.0.named))) c.turn.ensures.me in
    subst (λ (m : Sat g.row.K.Denot g.row.T.Denot). Ticketed c.args.table.now.key m.0.table (find c.args.node.0 m.0.turns)
    (record { state = c.args.state; ticket = c.into_badge-ticket.result; list = c.args.list })) (sym now)
    (ticket_of c.args.table.now.key c.args.seat.now.me.0 c.args.node.0 c.args.table.now.table_id
    (record { state = c.args.state; ticket = c.into_badge-ticket.result; list = c.args.list })
    c.requires.named c.requires.at.key_is c.requires.at.named
    (c.into_badge-ticket.ensures.0 ∙ c.ticket-place.ensures.same)
    (c.into_badge-ticket.ensures.2 ∙ ap (λ (m : Sat g.row.K.Denot g.row.T.Denot). m.0 ∷ []) place))

pub returns-clause-me : goal.returns-clause-me
returns-clause-me g c =
    let now = c.ticket-place.ensures.me ∙ ap (λ (m : Sat g.row.K.Denot g.row.T.Denot). with_view m (unnaming m.0 c.args.node.0)) c.turn.ensures.me in
    c.post.ensures.me
    ∙ (ap (λ (m : Sat g.row.K.Denot g.row.T.Denot). homing m (posting m.0 c.args.node.0)) now
    ∙ ap (with_view c.args.seat.now.me) (sent c.args.seat.now.me.0 c.args.node.0 c.requires.named))
