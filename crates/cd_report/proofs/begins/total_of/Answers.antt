use Rattle.std.proofs.Common.{arith}
use Rattle.cd_report.proofs.TextLemmas.{total_within, total_next}
use Rattle.cd_report.proofs.begins.total_of.Goals as goal

pub overflow_add-total : goal.overflow_add-total
overflow_add-total c = omega (arith, c.loop-k.invariant, total_within c.args.begins.now c.loop-k.k c.at-total.result c.at-total.ensures)

pub loop-k-preserved : goal.loop-k-preserved
loop-k-preserved c = omega (arith, c.loop-k.invariant, total_next c.args.begins.now c.loop-k.k c.at-total.result c.at-total.ensures)
