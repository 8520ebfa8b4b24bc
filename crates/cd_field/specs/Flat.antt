-- The words of a list of hulls as contracts see them.
use Rattle.cd_base.specs.Words.{Words, PlaceSet}
use Rattle.cd_field.specs.declared.flat_words.FlatWords.{FlatWords}
use Rattle.cd_field.specs.Hulls.{words_by, lost_by}

abbrev pub flat_words : FlatWords → Words
flat_words flat = words_by flat.ranges.items flat.hulls.items

abbrev pub flat_lost : FlatWords → PlaceSet
flat_lost flat = lost_by flat.ranges.items flat.hulls.items
