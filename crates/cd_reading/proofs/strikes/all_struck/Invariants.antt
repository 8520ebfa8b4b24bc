use Rattle.std.proofs.Common.{◌≡◌, length}
use Rattle.cd_reading.specs.Strikes.{AreAllStruck}
use Rattle.cd_reading.proofs.strikes.all_struck.Given as goal

abbrev pub invariant-loop-id : goal.invariant-loop-id
invariant-loop-id l = (length l.domains.items ≡ l.id) × AreAllStruck l.script l.domains.items
