use Rattle.std.proofs.Common.{◌≡◌, true, false, IsSome, drop, if◌then◌else◌}
use Rattle.cd_base.specs.declared.place.Place.{Place}
use Rattle.cd_base.specs.Words.{in_ranges}
use Rattle.cd_tree.specs.Meaning.{written}
use Rattle.cd_field.specs.Flat.{flat_words, flat_lost}
use Rattle.cd_field.proofs.flat_parts.take_ranges.Given as goal

abbrev pub invariant-loop-range : goal.invariant-loop-range
invariant-loop-range l = record {
  known : (q : Place) → in_ranges l.ranges q ≡ true → IsSome (flat_words l.words q);
  words : (q : Place) → written (in_ranges (drop l.range-index l.ranges)) (flat_words l.others) (flat_words l.words) q
      ≡ written (in_ranges l.ranges) (flat_words l.others) (flat_words l.initial.words) q;
  lost : (q : Place) → (if in_ranges (drop l.range-index l.ranges) q then false else flat_lost l.words q)
      ≡ (if in_ranges l.ranges q then false else flat_lost l.initial.words q);
}
