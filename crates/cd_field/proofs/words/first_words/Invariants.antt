use Rattle.std.proofs.Common.{◌≡◌, None, nat_lt, if◌then◌else◌}
use Rattle.cd_base.specs.declared.place.Place.{Place}
use Rattle.cd_tree.specs.Meaning.{initial}
use Rattle.cd_field.specs.Maps.{words_of}
use Rattle.cd_field.proofs.words.first_words.Given as goal

abbrev pub invariant-loop-number : goal.invariant-loop-number
invariant-loop-number l =
    (q : Place) → words_of l.words q ≡ (if nat_lt q.region l.number then initial l.regions q else None)
