use Rattle.std.proofs.Common.{◌≡◌, bit_or, drop, IsSome}
use Rattle.cd_base.specs.declared.place.Place.{Place}
use Rattle.cd_tree.specs.Scripts.{kinds_of, words_struck}
use Rattle.cd_field.specs.Flat.{flat_words, flat_lost}
use Rattle.cd_field.proofs.flat_parts.strike_flat.Given as goal

abbrev pub invariant-loop-fault : goal.invariant-loop-fault
invariant-loop-fault l = record {
  words : words_struck (drop l.fault-index l.hits) (flat_words l.words)
      ≡ words_struck l.hits (flat_words l.initial.words);
  kinds : bit_or l.kinds (kinds_of (drop l.fault-index l.hits)) ≡ kinds_of l.hits;
  known : (q : Place) → IsSome (flat_words l.initial.words q) → IsSome (flat_words l.words q);
  lost : (q : Place) → flat_lost l.words q ≡ flat_lost l.initial.words q;
}
