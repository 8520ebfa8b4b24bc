use Rattle.cd_reading.proofs.StruckLemmas.{StruckSo}
use Rattle.cd_reading.proofs.strikes.struck_of.Given as goal

abbrev pub invariant-loop-fault : goal.invariant-loop-fault
invariant-loop-fault l = StruckSo l.faults l.fn.node.0 l.fault-index l.begins
