use Rattle.std.proofs.Common.{◌∙◌}
use Rattle.cd_reading.proofs.KindLemmas.{no_fault}
use Rattle.cd_reading.proofs.StruckLemmas.{mark_more}
use Rattle.cd_reading.proofs.strikes.marks_of.Goals as goal

pub loop-fault-preserved : goal.loop-fault-preserved
loop-fault-preserved c = (
  c.mark.ensures.size ∙ c.loop-fault.invariant.0,
  λ id is rest.
      c.loop-fault.invariant.1 id (c.mark.ensures.marked id is).1
      (mark_more c.args.faults.now id c.loop-fault.fault-index no_fault c.loop-fault-test.true (c.mark.ensures.marked id is).0 rest),
)
