use Rattle.std.proofs.Common.{Some, ap, sym, ◌∙◌}
use Rattle.cd_cells.specs.declared.view.View.{View}
use Rattle.cd_cells.specs.Steps.{with_view}
use Rattle.cd_cells.specs.Views.{naming, joining}
use Rattle.cd_cells.proofs.Handing.{same_table, only_of}
use Rattle.cd_cells.proofs.Parting.{join_ticket}
use Rattle.cd_cells.proofs.passing.join_ticket.Goals as goal

pub join-requires-clause-same : goal.join-requires-clause-same
join-requires-clause-same g c =
    c.into_seat-child.ensures.0 ∙ same_table c.args.ticket.table_id c.args.table.now.table_id (c.requires.same ∙ c.requires.at.named)

pub returns-clause-me : goal.returns-clause-me
returns-clause-me g c = λ ask e.
    let child = only_of c.into_seat-child.result.me.0 (naming (Some c.args.table.now.key) c.args.seat.now.me.0.table ask) (sym c.into_seat-child.ensures.2 ∙ e) in
    c.join.ensures.me
    ∙ (ap (λ (w : View g.row.K.Denot). with_view c.args.seat.now.me (joining c.args.seat.now.me.0 w)) child
    ∙ ap (with_view c.args.seat.now.me) (join_ticket c.args.seat.now.me.0 (Some c.args.table.now.key) c.args.seat.now.me.0.table ask))
