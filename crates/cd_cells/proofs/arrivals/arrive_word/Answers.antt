use Rattle.std.proofs.Common.{arith, ap, ⊎_elim}
use Rattle.cd_cells.proofs.Ending.{arrive_allows_at}
use Rattle.std.proofs.lemmas.Bool.{cases_eq}
use Rattle.cd_cells.proofs.Handing.{still_at}
use Rattle.cd_cells.proofs.arrivals.arrive_word.Goals as goal

pub fetch_sub-requires : goal.fetch_sub-requires
fetch_sub-requires g c = (
  c.requires.at.same,
  (let l = c.requires.at.long in let b = c.requires.parent_below in omega arith),
  arrive_allows_at g.T.Shape.kind c.args.table.now.key c.args.table.now.table_id.slots c.args.seat.now.id c.args.seat.now.me
      c.args.parent.0 c.args.node.0 c.requires.parent c.requires.above c.requires.below c.requires.at.key_is c.requires.cell.0 c.requires.cell.1 c.requires.held c.args.table.now.table_id c.requires.at.named
      c.requires.cell.2 c.requires.cell.3,
)

pub returns-clause-at : goal.returns-clause-at
returns-clause-at g c =
    let told = c.fetch_sub.ensures.2 c.args.table.now.key c.requires.at.key_is c.args.node.0 c.requires.cell.0 c.requires.cell.1 in
    ⊎_elim
    (λ e. still_at (g.T.Shape.kind c.args.table.now.key) c.args.table.now.key c.args.table.now.table_id c.args.seat.now.table_id c.args.seat.now.me.0 c.requires.at
    c.fetch_sub.new.seat.table_id c.fetch_sub.ensures.0 c.fetch_sub.new.seat.me.0 (ap (λ m. m.0.key) (told.0 e)) (ap (λ m. m.0.table) (told.0 e)))
    (λ ne. still_at (g.T.Shape.kind c.args.table.now.key) c.args.table.now.key c.args.table.now.table_id c.args.seat.now.table_id c.args.seat.now.me.0 c.requires.at
    c.fetch_sub.new.seat.table_id c.fetch_sub.ensures.0 c.fetch_sub.new.seat.me.0 (ap (λ m. m.0.key) (told.1 ne)) (ap (λ m. m.0.table) (told.1 ne)))
    (cases_eq c.fetch_sub.result 1)

pub returns-clause-grouped : goal.returns-clause-grouped
returns-clause-grouped g c = (c.fetch_sub.ensures.2 c.args.table.now.key c.requires.at.key_is c.args.node.0 c.requires.cell.0 c.requires.cell.1).2
