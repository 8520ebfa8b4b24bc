use Rattle.std.proofs.Common.{◌≡◌, ◌++◌, drop}
use Rattle.cd_base.specs.Places.{united_from}
use Rattle.cd_base.proofs.united.united_behind.Given as goal

abbrev pub invariant-loop-next : goal.invariant-loop-next
invariant-loop-next l = l.all.items ++ united_from l.range (drop l.next-index l.ranges) ≡ united_from l.fn.range l.ranges
