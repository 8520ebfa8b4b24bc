use Rattle.std.proofs.Common.{◌≡◌, ◌≤◌, ◌-◌}
use Rattle.cd_kernel.specs.Computing.{gathered}
use Rattle.cd_kernel.proofs.totals.gather.Given as goal

abbrev pub invariant-loop-at : goal.invariant-loop-at
invariant-loop-at g l = record {
  within : l.at ≤ l.count;
  so_far : l.so_far ≡ gathered l.gathering (g.F.Field.model l.field).words l.x l.at;
}

abbrev pub decreases-loop-at : goal.decreases-loop-at
decreases-loop-at g l = l.count - l.at
