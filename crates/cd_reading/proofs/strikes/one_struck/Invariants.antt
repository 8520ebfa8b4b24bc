use Rattle.std.proofs.Common.{◌≡◌, ◌≤◌, length, take, filter}
use Rattle.cd_reading.specs.Strikes.{strikes_in}
use Rattle.cd_reading.proofs.strikes.one_struck.Given as goal

abbrev pub invariant-loop-fault : goal.invariant-loop-fault
invariant-loop-fault l =
    (l.own ≡ filter (strikes_in l.fn.node.0 l.begin) (take l.fault-index l.faults)) × (length l.own ≤ l.fault-index)
