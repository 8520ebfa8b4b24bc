use Rattle.std.proofs.Common.{◌≡◌, ◌++◌, length}
use Rattle.cd_base.specs.Places.{by_start, united_from}
use Rattle.cd_base.proofs.united.united_from.Given as goal

abbrev pub invariant-loop-next : goal.invariant-loop-next
invariant-loop-next l = l.all.items ++ united_from l.range (by_start l.first l.second) ≡ united_from l.fn.range (by_start l.fn.first l.fn.second)

abbrev pub decreases-loop-next : goal.decreases-loop-next
decreases-loop-next l = length (by_start l.first l.second)
