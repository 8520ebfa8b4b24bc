use Rattle.std.proofs.Common.{◌≡◌, ◌==◌, bit_or, drop, filter}
use Rattle.cd_tree.specs.Scripts.{kinds_of}
use Rattle.cd_tree.specs.declared.document.Fault.{Fault}
use Rattle.cd_reading.proofs.strikes.kinds_at.Given as goal

abbrev pub invariant-loop-fault : goal.invariant-loop-fault
invariant-loop-fault l =
    bit_or l.kinds (kinds_of (filter (λ (fault : Fault). fault.item == l.point) (drop l.fault-index l.faults)))
    ≡ kinds_of (filter (λ (fault : Fault). fault.item == l.point) l.faults)
