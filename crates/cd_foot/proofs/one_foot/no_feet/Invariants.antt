use Rattle.std.proofs.Common.{◌≡◌, length}
use Rattle.cd_foot.proofs.one_foot.no_feet.Given as goal

abbrev pub invariant-loop : goal.invariant-loop
invariant-loop l = length l.feet.items ≡ l.counter
