use Rattle.std.proofs.Common.{◌<◌, ◌≤◌, ◌-◌, length}
use Rattle.cd_field.specs.EventLists.{before_part}
use Rattle.cd_field.proofs.event_list.find_part.Given as goal

abbrev pub invariant-loop-high : goal.invariant-loop-high
invariant-loop-high l = record {
  some : l.low < l.high;
  within : l.high ≤ length l.parts;
  first : before_part l.parts l.low ≤ l.k;
  next : l.k < before_part l.parts l.high;
}

abbrev pub decreases-loop-high : goal.decreases-loop-high
decreases-loop-high l = l.high - l.low
