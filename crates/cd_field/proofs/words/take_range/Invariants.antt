use Rattle.std.proofs.Common.{◌≡◌}
use Rattle.cd_base.specs.declared.place.Place.{Place}
use Rattle.cd_base.specs.Words.{in_range}
use Rattle.cd_tree.specs.Meaning.{written}
use Rattle.cd_field.specs.Maps.{words_of}
use Rattle.cd_field.proofs.words.take_range.Given as goal

abbrev pub invariant-loop-index : goal.invariant-loop-index
invariant-loop-index l =
    (q : Place) → written (in_range (record l.range { low = l.index })) (words_of l.others) (words_of l.words) q
    ≡ written (in_range l.range) (words_of l.others) (words_of l.initial.words) q
