use Rattle.std.proofs.Common.{◌≡◌, take, sum}
use Rattle.cd_pool.specs.Counts.{counted}
use Rattle.cd_pool.proofs.engine.sum_of.Given as goal

abbrev pub invariant-loop-k : goal.invariant-loop-k
invariant-loop-k l = l.total ≡ counted 0 (sum (take l.k l.begins))
