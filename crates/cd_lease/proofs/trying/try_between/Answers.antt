use Rattle.std.proofs.Common.{◌+◌}
use Rattle.cd_lease.specs.Steps.{id_of}
use Rattle.cd_lease.proofs.Searching.{nothing_passed, passes_on, finds_on}
use Rattle.cd_lease.proofs.trying.try_between.Goals as goal

pub loop-block-init : goal.loop-block-init
loop-block-init c = (c.requires.at, nothing_passed c.args.low c.args.seat.now.me)

pub returns-in-Some-clause-outcome : goal.returns-in-Some-clause-outcome
returns-in-Some-clause-outcome c =
    finds_on c.args.low c.loop-block.block c.args.seat.now.me c.loop-block.seat.me c.try_block.new.seat.me (id_of c.loop-block.block c.in-Some.serial)
    c.loop-block.invariant.1 c.in-Some.ensures.outcome

pub loop-block-preserved : goal.loop-block-preserved
loop-block-preserved c = (
  c.try_block.ensures.at,
  passes_on c.args.low c.loop-block.block (c.loop-block.block + 1) c.args.seat.now.me c.loop-block.seat.me c.try_block.new.seat.me
      c.loop-block.invariant.1 c.in_default.ensures.outcome,
)
