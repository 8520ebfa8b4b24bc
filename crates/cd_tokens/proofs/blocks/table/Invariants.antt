use Rattle.std.proofs.Common.{◌≤◌, length}
use Rattle.cd_tokens.specs.Layouts.{IsTable}
use Rattle.cd_tokens.proofs.blocks.table.Given as goal

abbrev pub invariant-loop-at : goal.invariant-loop-at
invariant-loop-at l = record {
  below : l.at ≤ length l.lines;
  table : IsTable l.lines l.after.items l.at;
}

abbrev pub decreases-loop-at : goal.decreases-loop-at
decreases-loop-at l = l.at
