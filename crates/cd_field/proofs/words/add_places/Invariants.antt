use Rattle.std.proofs.Common.{◌≡◌, ◌||◌, drop}
use Rattle.cd_base.specs.declared.place.Place.{Place}
use Rattle.cd_base.specs.Words.{in_ranges}
use Rattle.cd_field.specs.Maps.{places_of}
use Rattle.cd_field.proofs.words.add_places.Given as goal

abbrev pub invariant-loop-range : goal.invariant-loop-range
invariant-loop-range l =
    (q : Place) → (in_ranges (drop l.range-index l.ranges) q || places_of l.places q)
    ≡ (in_ranges l.ranges q || places_of l.initial.places q)
