use Rattle.std.proofs.Common.{◌≡◌, drop}
use Rattle.cd_parse.specs.Ranges.{region_from}
use Rattle.cd_parse.proofs.ranges.region_named.Given as goal

abbrev pub invariant-loop-number : goal.invariant-loop-number
invariant-loop-number l = region_from l.number (drop l.number l.regions) l.name ≡ region_from 0 l.regions l.name
