use Rattle.std.proofs.Common.{◌≡◌, ◌≢◌, ℕ, false, Some, All, length, drop, slice_get}
use Rattle.cd_tree.specs.declared.document.Fault.{Fault}
use Rattle.cd_reading.proofs.strikes.marks_of.Given as goal

-- where no fault that is left names an unmarked domain, none of all does
abbrev pub invariant-loop-fault : goal.invariant-loop-fault
invariant-loop-fault l =
    (length l.marks.items ≡ l.count)
    × ((id : ℕ) → slice_get l.marks.items id ≡ Some false → All (λ (fault : Fault). fault.node.0 ≢ id) (drop l.fault-index l.faults)
    → All (λ (fault : Fault). fault.node.0 ≢ id) l.faults)
