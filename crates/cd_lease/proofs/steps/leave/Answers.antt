use Rattle.std.proofs.Common.{refl, ◌∙◌, arith}
use Rattle.cd_lease.proofs.Controls.{leaves_allows}
use Rattle.cd_lease.proofs.steps.leave.Goals as goal

pub fetch_sub-requires : goal.fetch_sub-requires
fetch_sub-requires c = (
  c.requires.at.same,
  (let l = c.requires.at.long in let b = c.requires.block in omega arith),
  leaves_allows c.args.table.now.key c.args.table.now.table_id.slots c.args.seat.now.id c.args.seat.now.me c.args.id c.requires.block c.requires.held,
)

pub returns-clause-at : goal.returns-clause-at
returns-clause-at c = record { same = c.fetch_sub.ensures.0 ∙ c.requires.at.same; long = c.requires.at.long }

pub returns-clause-me : goal.returns-clause-me
returns-clause-me c = c.fetch_sub.ensures.2 c.args.id c.requires.held refl
