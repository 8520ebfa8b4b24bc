use Rattle.std.proofs.Common.{◌≡◌, ◌++◌, drop}
use Rattle.cd_base.specs.Places.{with_range}
use Rattle.cd_base.proofs.places.with.Given as goal

abbrev pub invariant-loop-next : goal.invariant-loop-next
invariant-loop-next l = l.all.items ++ with_range l.range (drop l.next-index l.ranges) ≡ with_range l.fn.range l.ranges
