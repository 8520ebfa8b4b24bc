use Rattle.std.proofs.Common.{◌≡◌, bit_or, drop}
use Rattle.cd_tree.specs.KindSets.{halting, halting_from}
use Rattle.cd_tree.proofs.kinds.halting.Given as goal

abbrev pub invariant-loop-at : goal.invariant-loop-at
invariant-loop-at l = bit_or l.kinds (halting_from l.at (drop l.at l.names)) ≡ halting l.names
