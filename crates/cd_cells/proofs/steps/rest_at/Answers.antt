use Rattle.std.proofs.Common.{Some, ap, sym, subst, ◌∙◌}
use Rattle.cd_cells.specs.declared.view.View.{View}
use Rattle.cd_cells.specs.Listing.{find}
use Rattle.cd_cells.specs.Rule.{Ticketed}
use Rattle.cd_cells.proofs.Handing.{in_hand}
use Rattle.cd_cells.specs.Steps.{Sat, homing, resting}
use Rattle.cd_cells.proofs.steps.rest_at.Goals as goal

pub rest_word-requires-clause-cell : goal.rest_word-requires-clause-cell
rest_word-requires-clause-cell g c =
    let now = c.exchange.ensures.3 in (
      c.args.cell,
      in_hand c.args.seat.now.me c.exchange.new.seat.me c.args.node.0 (Some c.args.cell) now,
      subst (λ (v : View g.row.K.Denot). (g.T.Shape.kind c.args.table.now.key).Waits (find c.args.node.0 v.holds) c.args.cell.state) (sym (ap (λ m. m.0) now)) c.requires.waits,
      subst (λ (v : View g.row.K.Denot). Ticketed c.args.table.now.key v.table (find c.args.node.0 v.holds) c.args.cell) (sym (ap (λ m. m.0) now)) c.requires.ticket,
      c.requires.list,
      c.requires.members,
    )

pub returns-clause-me : goal.returns-clause-me
returns-clause-me g c =
    let now = c.exchange.ensures.3 in
    c.rest_word.ensures.me c.args.node.0 c.args.cell (in_hand c.args.seat.now.me c.exchange.new.seat.me c.args.node.0 (Some c.args.cell) now)
    ∙ ap (λ (m : Sat g.row.K.Denot g.row.T.Denot). homing m (resting (g.T.Shape.kind c.args.table.now.key) m.0 c.args.node.0 c.args.cell.state)) now
