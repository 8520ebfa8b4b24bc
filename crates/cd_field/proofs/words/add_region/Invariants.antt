use Rattle.std.proofs.Common.{◌≡◌, Some, if◌then◌else◌}
use Rattle.cd_base.specs.declared.place.Place.{Place}
use Rattle.cd_base.specs.Words.{in_range, pattern_word}
use Rattle.cd_field.specs.Maps.{words_of}
use Rattle.cd_field.proofs.words.add_region.Given as goal

abbrev pub invariant-loop-index : goal.invariant-loop-index
invariant-loop-index l =
    (q : Place) → (if in_range (record { region = l.number; low = l.index; high = l.region.length }) q then Some (pattern_word l.region.pattern q.index) else words_of l.words q)
    ≡ (if in_range (record { region = l.number; low = 0; high = l.region.length }) q then Some (pattern_word l.region.pattern q.index) else words_of l.initial.words q)
