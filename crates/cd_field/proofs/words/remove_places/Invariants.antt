use Rattle.std.proofs.Common.{◌≡◌, if◌then◌else◌, false, drop}
use Rattle.cd_base.specs.declared.place.Place.{Place}
use Rattle.cd_base.specs.Words.{in_ranges}
use Rattle.cd_field.specs.Maps.{places_of}
use Rattle.cd_field.proofs.words.remove_places.Given as goal

abbrev pub invariant-loop-range : goal.invariant-loop-range
invariant-loop-range l =
    (q : Place) → (if in_ranges (drop l.range-index l.ranges) q then false else places_of l.places q)
    ≡ (if in_ranges l.ranges q then false else places_of l.initial.places q)
