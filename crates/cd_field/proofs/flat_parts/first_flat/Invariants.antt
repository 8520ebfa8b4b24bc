use Rattle.std.proofs.Common.{◌≡◌, None, false, length, nat_lt, if◌then◌else◌}
use Rattle.cd_base.specs.declared.place.Place.{Place}
use Rattle.cd_tree.specs.Meaning.{initial}
use Rattle.cd_field.specs.Hulls.{AreCovered, words_by, lost_by}
use Rattle.cd_field.proofs.flat_parts.first_flat.Given as goal

abbrev pub invariant-loop-number : goal.invariant-loop-number
invariant-loop-number l = record {
  covered : AreCovered l.ranges.items l.hulls.items;
  count : length l.hulls.items ≡ l.number;
  words : (q : Place) → words_by l.ranges.items l.hulls.items q ≡ (if nat_lt q.region l.number then initial l.regions q else None);
  lost : (q : Place) → lost_by l.ranges.items l.hulls.items q ≡ false;
}
