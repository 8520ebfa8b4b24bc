-- Words and sets of places as ordered maps have them, and the machine that a field of such maps is.
use Rattle.std.specs.Prelude.{ℕ}
use Rattle.std.specs.declared.cmp.Ordering.{Ordering}
use Rattle.std.specs.Ordering.{nat_cmp, ordering_then}
use Rattle.std.specs.BTreeMap as tree
use Rattle.std.specs.BTreeMap.{BTreeMap}
use Rattle.std.specs.BTreeSet as sorted
use Rattle.std.specs.BTreeSet.{BTreeSet}
use Rattle.cd_base.specs.declared.place.Place.{Place}
use Rattle.cd_base.specs.Words.{Words, PlaceSet}
use Rattle.cd_field.specs.declared.map_field.MapField.{MapField}
use Rattle.cd_field.specs.FieldModel.{FieldModel}

-- the order of places: by region, then by index
abbrev pub place_cmp : Place → Place → Ordering
place_cmp p q = ordering_then (nat_cmp p.region q.region) (nat_cmp p.index q.index)

-- the words of a map
abbrev pub words_of : BTreeMap Place ℕ → Words
words_of words = λ p. tree.get place_cmp words p

-- the test whether a set has a place
abbrev pub places_of : BTreeSet Place → PlaceSet
places_of places = λ p. sorted.contains place_cmp places p

-- the machine that a field over maps is
abbrev pub machine_of : MapField → FieldModel
machine_of field = record {
  words = words_of field.words;
  lost = places_of field.lost;
  events = field.events.items;
  notes = field.notes;
  script = field.script.items;
  node = field.node;
  begin = field.begin;
  carved = field.carved.items;
}
