use Rattle.std.proofs.Common.{ℕ, Some, sym, subst, arith}
use Rattle.cd_cells.specs.Steps.{Claimed}
use Rattle.cd_cells.proofs.Sending.{domain_of_phase, claim_allows}
use Rattle.cd_cells.proofs.steps.claim_word.Goals as goal

pub compare_exchange-requires : goal.compare_exchange-requires
compare_exchange-requires g c = (
  c.requires.at.same,
  (let l = c.requires.at.long in let b = c.requires.below in omega arith),
  claim_allows g.T.Shape.kind c.args.table.now.key c.args.table.now.table_id.slots c.args.seat.now.id c.args.seat.now.me c.args.node.0
      c.requires.below c.requires.at.key_is c.args.table.now.table_id c.requires.at.named,
)

pub returns-clause-won : goal.returns-clause-won
returns-clause-won g c = λ e.
    let won = (c.compare_exchange.ensures.2 c.args.table.now.key c.requires.at.key_is).0 e in (
      won.0,
      subst (λ (d : ℕ). Claimed (g.T.Shape.kind c.args.table.now.key) c.args.table.now.key c.args.seat.now.me d c.compare_exchange.new.seat.me won.0 (Some won.0))
          (sym (domain_of_phase c.args.node.0)) won.1,
    )
