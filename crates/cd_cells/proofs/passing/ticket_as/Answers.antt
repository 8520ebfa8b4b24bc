use Rattle.std.proofs.Common.{ℕ, subst, arith}
use Rattle.atomic_table.specs.Table.{Splits}
use Rattle.cd_cells.specs.Listing.{find}
use Rattle.cd_cells.specs.Views.{naming}
use Rattle.cd_cells.specs.Rule.{Ordered}
use Rattle.cd_cells.specs.Steps.{unnaming}
use Rattle.cd_cells.proofs.Parting.{splits_ticket}
use Rattle.cd_cells.proofs.passing.ticket_as.Goals as goal

pub split_seat-requires : goal.split_seat-requires
split_seat-requires g c = (
  c.requires.at.same,
  (let l = c.requires.at.long in omega arith),
  subst (λ (d : ℕ). Splits (Ordered (g.T.Shape.kind c.args.table.now.key) c.args.table.now.key) c.args.seat.now.id c.args.seat.now.me.0
      (unnaming c.args.seat.now.me.0 d) (naming c.args.seat.now.me.0.key c.args.seat.now.me.0.table (find d c.args.seat.now.me.0.named)))
      c.requires.destined
      (splits_ticket (g.T.Shape.kind c.args.table.now.key) c.args.table.now.key c.args.seat.now.id c.args.seat.now.me.0 c.args.node.0
      c.requires.below c.requires.turned c.requires.named),
)
