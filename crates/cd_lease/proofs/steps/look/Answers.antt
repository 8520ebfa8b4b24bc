use Rattle.std.proofs.Common.{refl, ◌∙◌, arith}
use Rattle.cd_lease.proofs.Controls.{looks_allows}
use Rattle.cd_lease.proofs.steps.look.Goals as goal

pub load-requires : goal.load-requires
load-requires c = (
  c.requires.at.same,
  (let l = c.requires.at.long in let b = c.requires.block in omega arith),
  looks_allows c.args.table.now.key c.args.table.now.table_id.slots c.args.seat.now.id c.args.seat.now.me c.args.block c.requires.block,
)

pub returns-clause-at : goal.returns-clause-at
returns-clause-at c = record { same = c.load.ensures.0 ∙ c.requires.at.same; long = c.requires.at.long }

pub returns-clause-me : goal.returns-clause-me
returns-clause-me c = c.load.ensures.2 c.args.block refl
