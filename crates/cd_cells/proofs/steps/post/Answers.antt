use Rattle.std.proofs.Common.{Some, ap, sym, subst}
use Rattle.cd_cells.specs.declared.view.View.{View}
use Rattle.cd_cells.specs.Listing.{find}
use Rattle.cd_cells.specs.Rule.{Ticketed}
use Rattle.cd_cells.proofs.Handing.{in_hand}
use Rattle.cd_cells.proofs.steps.post.Goals as goal

pub post_word-requires-clause-cell : goal.post_word-requires-clause-cell
post_word-requires-clause-cell g c =
    let now = c.exchange.ensures.3 in (
      c.args.cell,
      in_hand c.args.seat.now.me c.exchange.new.seat.me c.args.node.0 (Some c.args.cell) now,
      subst (λ (v : View g.row.K.Denot). (g.T.Shape.kind c.args.table.now.key).Ready (find c.args.node.0 v.turns) c.args.cell.state) (sym (ap (λ m. m.0) now)) c.requires.ready,
      subst (λ (v : View g.row.K.Denot). Ticketed c.args.table.now.key v.table (find c.args.node.0 v.turns) c.args.cell) (sym (ap (λ m. m.0) now)) c.requires.ticket,
    )
