use Rattle.std.proofs.Common.{arith, ℕ, Some, sym, subst}
use Rattle.cd_cells.proofs.Resuming.{resume_allows}
use Rattle.cd_cells.specs.Steps.{Resumed}
use Rattle.cd_cells.proofs.Sending.{domain_of_phase}
use Rattle.cd_cells.proofs.arrivals.resume_word.Goals as goal

pub store-requires : goal.store-requires
store-requires g c = (
  c.requires.at.same,
  (let l = c.requires.at.long in let b = c.requires.parent_below in omega arith),
  resume_allows g.T.Shape.kind c.args.table.now.key c.args.table.now.table_id.slots c.args.seat.now.id c.args.seat.now.me
      c.args.parent.0 c.args.member.0 c.requires.above c.requires.below c.requires.parent c.requires.at.key_is c.args.table.now.table_id c.requires.at.named
      c.requires.last c.requires.cleared c.requires.all,
)

pub returns-clause-resumed : goal.returns-clause-resumed
returns-clause-resumed g c =
    let told = c.store.ensures.2 c.args.table.now.key c.requires.at.key_is in (
      told.0,
      subst (λ (d : ℕ). Resumed (g.T.Shape.kind c.args.table.now.key) c.args.table.now.key c.args.seat.now.me d c.store.new.seat.me told.0 (Some told.0)) (sym (domain_of_phase c.args.parent.0)) told.1,
    )
