use Rattle.std.proofs.Common.{◌≡◌, if◌then◌else◌, false}
use Rattle.cd_base.specs.declared.place.Place.{Place}
use Rattle.cd_base.specs.Words.{in_range}
use Rattle.cd_field.specs.Maps.{places_of}
use Rattle.cd_field.proofs.words.remove_range.Given as goal

abbrev pub invariant-loop-index : goal.invariant-loop-index
invariant-loop-index l =
    (q : Place) → (if in_range (record l.range { low = l.index }) q then false else places_of l.places q)
    ≡ (if in_range l.range q then false else places_of l.initial.places q)
