use Rattle.std.proofs.Common.{◌≡◌, ◌||◌, drop}
use Rattle.cd_base.specs.declared.place.Place.{Place}
use Rattle.cd_base.specs.Words.{in_ranges}
use Rattle.cd_field.specs.Flat.{flat_words, flat_lost}
use Rattle.cd_field.proofs.flat_parts.mark_ranges.Given as goal

abbrev pub invariant-loop-range : goal.invariant-loop-range
invariant-loop-range l = record {
  words : (q : Place) → flat_words l.words q ≡ flat_words l.initial.words q;
  lost : (q : Place) → (in_ranges (drop l.range-index l.ranges) q || flat_lost l.words q)
      ≡ (in_ranges l.ranges q || flat_lost l.initial.words q);
}
