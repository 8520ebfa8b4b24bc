use Rattle.std.proofs.Common.{drop}
use Rattle.cd_base.specs.Words.{in_ranges}
use Rattle.cd_foot.specs.Clear.{Misses}
use Rattle.cd_foot.proofs.clear.reaches_into.Given as goal

-- where the ranges that are left have no place of the set, none of all has
abbrev pub invariant-loop-hull : goal.invariant-loop-hull
invariant-loop-hull l = Misses (in_ranges (drop l.hull-index l.hulls)) l.reach → Misses (in_ranges l.hulls) l.reach
