use Rattle.std.proofs.Common.{◌≡◌, drop}
use Rattle.cd_base.specs.declared.place.Place.{Place}
use Rattle.cd_base.specs.Words.{in_ranges}
use Rattle.cd_tree.specs.Meaning.{written}
use Rattle.cd_field.specs.Maps.{words_of}
use Rattle.cd_field.proofs.words.take_words.Given as goal

abbrev pub invariant-loop-range : goal.invariant-loop-range
invariant-loop-range l =
    (q : Place) → written (in_ranges (drop l.range-index l.ranges)) (words_of l.others) (words_of l.words) q
    ≡ written (in_ranges l.ranges) (words_of l.others) (words_of l.initial.words) q
