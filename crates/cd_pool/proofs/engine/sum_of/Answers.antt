use Rattle.std.proofs.Common.{arith}
use Rattle.cd_pool.proofs.CountLemmas.{sum_next}
use Rattle.cd_pool.proofs.engine.sum_of.Goals as goal

pub loop-k-preserved : goal.loop-k-preserved
loop-k-preserved c = omega (arith, c.loop-k.invariant, c.saturating_add-total.ensures, sum_next c.args.begins.now c.loop-k.k c.at.result c.at.ensures)
