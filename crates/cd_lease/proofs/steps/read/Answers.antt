use Rattle.std.proofs.Common.{refl, ◌∙◌, arith}
use Rattle.cd_lease.proofs.Filling.{reads_allows}
use Rattle.cd_lease.proofs.steps.read.Goals as goal

pub load-requires : goal.load-requires
load-requires c = (
  c.requires.at.same,
  (let l = c.requires.at.long in let b = c.requires.block in let w = c.requires.within in omega arith),
  reads_allows c.args.table.now.key c.args.table.now.table_id.slots c.args.seat.now.id c.args.seat.now.me c.args.id.block c.args.i
      c.requires.block c.requires.within,
)

pub returns-clause-at : goal.returns-clause-at
returns-clause-at c = record { same = c.load.ensures.0 ∙ c.requires.at.same; long = c.requires.at.long }

pub returns-clause-me : goal.returns-clause-me
returns-clause-me c = c.load.ensures.2.0

pub returns-clause-word : goal.returns-clause-word
returns-clause-word c = λ piece known within. c.load.ensures.2.1 c.args.id piece c.args.i c.requires.held known within refl
