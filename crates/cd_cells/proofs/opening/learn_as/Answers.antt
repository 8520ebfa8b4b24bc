use Rattle.std.proofs.Common.{ℕ, List, ◌∷◌, subst}
use mathlib.Core.Option.{none}
use Rattle.atomic_table.specs.Table.{Allows, step}
use Rattle.cd_cells.specs.Rule.{Ordered}
use Rattle.cd_cells.specs.Steps.{Learns}
use Rattle.cd_cells.proofs.Closing.{learn_allows}
use Rattle.cd_cells.proofs.opening.learn_as.Goals as goal

pub load-requires : goal.load-requires
load-requires g c =
    let t = c.args.table.now.table_id in (
      c.requires.same,
      c.requires.words,
      subst (λ (name : List ℕ). Allows (Ordered (g.T.Shape.kind c.args.table.now.key) c.args.table.now.key) t.slots c.args.seat.now.id c.args.seat.now.me 0
          (λ n. n) (Learns name (step t.slots 0 0 0 none) c.args.seat.now.me))
          c.requires.room
          (learn_allows g.T.Shape.kind c.args.table.now.key t.slots c.args.seat.now.id c.args.seat.now.me t.words
          (t.slots ∷ t.views_name ∷ t.atom ∷ t.block ∷ t.offset ∷ t.slot_names) c.requires.fresh),
    )
