use Rattle.std.proofs.Common.{◌≡◌, ◌||◌, true, drop}
use Rattle.cd_base.specs.declared.place.Place.{Place}
use Rattle.cd_base.specs.Words.{in_ranges}
use Rattle.cd_foot.proofs.clear.with_all.Given as goal

abbrev pub invariant-loop-range : goal.invariant-loop-range
invariant-loop-range l =
    (q : Place) → (in_ranges l.fn.hulls q || in_ranges l.ranges q) ≡ true → (in_ranges l.hulls q || in_ranges (drop l.range-index l.ranges) q) ≡ true
