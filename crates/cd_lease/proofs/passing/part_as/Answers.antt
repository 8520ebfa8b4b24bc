use Rattle.std.proofs.Common.{ℕ, ◌≤◌, sym, ap, ◌∙◌, subst, arith}
use Rattle.cd_lease.specs.Steps.{with_view, bare_sat, newcomer, without}
use Rattle.cd_lease.proofs.Parting.{splits}
use Rattle.cd_lease.proofs.passing.part_as.Goals as goal

pub split_seat-requires : goal.split_seat-requires
split_seat-requires g c = (
  c.requires.at.same,
  (let l = c.requires.at.long in let b = c.requires.some in omega arith),
  splits c.args.table.now.key c.args.seat.now.id c.args.seat.now.me.0 g.B.Portion.room c.requires.idle
      (subst (λ (n : ℕ). n ≤ c.args.seat.now.me.0.room) c.requires.portion c.requires.room),
)

pub returns-clause-at : goal.returns-clause-at
returns-clause-at g c = record { same = c.split_seat.ensures.0 ∙ c.requires.at.same; long = c.requires.at.long }

pub returns-clause-me : goal.returns-clause-me
returns-clause-me g c = c.split_seat.ensures.2 ∙ ap (λ (n : ℕ). with_view c.args.seat.now.me (without c.args.seat.now.me.0 n)) (sym c.requires.portion)

pub returns-clause-at_child : goal.returns-clause-at_child
returns-clause-at_child g c = record { same = c.split_seat.ensures.3 ∙ c.requires.at.same; long = c.requires.at.long }

pub returns-clause-child : goal.returns-clause-child
returns-clause-child g c = c.split_seat.ensures.4 ∙ ap (λ (n : ℕ). bare_sat (newcomer c.args.seat.now.me.0.known n)) (sym c.requires.portion)
