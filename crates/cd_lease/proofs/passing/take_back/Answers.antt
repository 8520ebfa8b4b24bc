use Rattle.std.proofs.Common.{◌∙◌, arith}
use Rattle.cd_lease.proofs.Parting.{joins}
use Rattle.cd_lease.proofs.passing.take_back.Goals as goal

pub join_seat-requires : goal.join_seat-requires
join_seat-requires c = (
  c.requires.at.same,
  c.requires.at_child,
  c.requires.bare,
  (let l = c.requires.at.long in let b = c.requires.some in omega arith),
  joins c.args.table.now.key c.args.seat.now.id c.args.seat.now.me.0 c.args.child.id c.args.child.me.0 c.requires.idle c.requires.nothing,
)

pub returns-clause-at : goal.returns-clause-at
returns-clause-at c = record { same = c.join_seat.ensures.0 ∙ c.requires.at.same; long = c.requires.at.long }

pub returns-clause-me : goal.returns-clause-me
returns-clause-me c = c.join_seat.ensures.2
