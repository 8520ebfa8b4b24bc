use Rattle.std.proofs.Common.{◌≡◌, ℕ, None, refl, ◌∙◌, ap, subst, arith}
use Rattle.cd_lease.specs.Steps.{with_view, taking, next_id}
use Rattle.cd_lease.specs.Views.{words_under}
use Rattle.cd_lease.proofs.Taking.{takes_allows}
use Rattle.cd_lease.proofs.steps.take_block.Goals as goal

pub compare_exchange-requires : goal.compare_exchange-requires
compare_exchange-requires c = (
  c.requires.at.same,
  (let l = c.requires.at.long in let b = c.requires.block in omega arith),
  takes_allows c.args.table.now.key c.args.table.now.table_id.slots c.args.seat.now.id c.args.seat.now.me c.args.block c.args.old c.taken.result
      c.requires.block c.requires.open c.taken.ensures.serial c.taken.ensures.user c.requires.idle c.requires.room,
)

pub returns-clause-at : goal.returns-clause-at
returns-clause-at c = record { same = c.compare_exchange.ensures.0 ∙ c.requires.at.same; long = c.requires.at.long }

pub returns-clause-won : goal.returns-clause-won
returns-clause-won c = λ e.
    ((c.compare_exchange.ensures.2 c.args.block refl).0 e).0
    ∙ ap (λ (x : ℕ). with_view c.args.seat.now.me (taking c.args.seat.now.me.0 (next_id c.args.block x))) e

pub returns-clause-fresh : goal.returns-clause-fresh
returns-clause-fresh c = λ e.
    subst (λ (x : ℕ). words_under c.args.seat.now.me.0.known (next_id c.args.block x) ≡ None) e ((c.compare_exchange.ensures.2 c.args.block refl).0 e).1

pub returns-clause-lost : goal.returns-clause-lost
returns-clause-lost c = λ ne. (c.compare_exchange.ensures.2 c.args.block refl).1 ne
