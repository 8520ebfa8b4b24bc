use Rattle.std.proofs.Common.{◌≡◌, ◌||◌}
use Rattle.cd_base.specs.declared.place.Place.{Place}
use Rattle.cd_base.specs.Words.{in_range}
use Rattle.cd_field.specs.Maps.{places_of}
use Rattle.cd_field.proofs.words.add_range.Given as goal

abbrev pub invariant-loop-index : goal.invariant-loop-index
invariant-loop-index l =
    (q : Place) → (in_range (record l.range { low = l.index }) q || places_of l.places q)
    ≡ (in_range l.range q || places_of l.initial.places q)
