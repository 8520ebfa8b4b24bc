use Rattle.std.proofs.Common.{◌≡◌, drop}
use Rattle.cd_tries.specs.Keeping.{linked}
use Rattle.cd_tries.proofs.preserving.linked.Given as goal

abbrev pub invariant-loop-level : goal.invariant-loop-level
invariant-loop-level l = linked (drop l.level-index l.above) (l.up, l.entry) ≡ linked l.above (l.up, l.entry)
