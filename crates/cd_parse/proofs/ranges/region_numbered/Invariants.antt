use Rattle.std.proofs.Common.{◌≡◌, ◌++◌, drop}
use Rattle.std.specs.Prelude.{decimal}
use Rattle.cd_parse.specs.Ranges.{region_from}
use Rattle.cd_parse.proofs.ranges.region_numbered.Given as goal

abbrev pub invariant-loop-at : goal.invariant-loop-at
invariant-loop-at l = region_from l.at (drop l.at l.regions) (l.base ++ decimal l.number) ≡ region_from 0 l.regions (l.base ++ decimal l.number)
