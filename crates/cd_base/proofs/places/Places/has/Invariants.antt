use Rattle.std.proofs.Common.{◌≡◌, drop}
use Rattle.cd_base.specs.Words.{in_ranges}
use Rattle.cd_base.proofs.places.Places.has.Given as goal

abbrev pub invariant-loop-range : goal.invariant-loop-range
invariant-loop-range l = in_ranges (drop l.range-index l.range-items) l.place ≡ in_ranges l.range-items l.place
