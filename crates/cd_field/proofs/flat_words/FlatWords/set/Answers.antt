use Rattle.std.proofs.Common.{ℕ, List, refl, ◌-◌}
use Rattle.std.proofs.lemmas.List.{length-set}
use Rattle.cd_field.specs.Hulls.{HullModel, hull_at, HasIndex, changed, away_in}
use Rattle.cd_field.proofs.HullLemmas.{index_known, index_short, covered_changed, word_set, place_same}
use Rattle.cd_field.proofs.flat_words.FlatWords.set.Goals as goal

pub set_word-requires : goal.set_word-requires
set_word-requires c = index_known c.args.self.now.ranges.items c.args.self.now.hulls.items c.args.place c.args.self.now.covered c.requires

pub invariant_of-self : goal.invariant_of-self
invariant_of-self c =
    let hulls : List HullModel = c.args.self.now.hulls.items in
    let region : ℕ = c.args.place.region in
    let hull : HullModel = hull_at hulls region in
    let has : HasIndex hull c.args.place.index =
    index_known c.args.self.now.ranges.items hulls c.args.place c.args.self.now.covered c.requires in
    record {
      covered = covered_changed c.args.self.now.ranges.items hulls c.set_word.new.hulls.items region (changed hull c.args.place.index c.args.word)
          c.args.self.now.covered (index_short hulls region c.args.place.index has) refl
          (length-set hull.words (c.args.place.index - hull.low) c.args.word) c.set_word.ensures;
    }

pub returns-clause-words : goal.returns-clause-words
returns-clause-words c =
    word_set c.args.self.now.ranges.items c.args.self.now.hulls.items c.set_word.new.hulls.items c.args.place c.args.word c.args.self.now.covered
    c.requires c.set_word.ensures

pub returns-clause-lost : goal.returns-clause-lost
returns-clause-lost c =
    let hulls : List HullModel = c.args.self.now.hulls.items in
    let region : ℕ = c.args.place.region in
    let has : HasIndex (hull_at hulls region) c.args.place.index =
    index_known c.args.self.now.ranges.items hulls c.args.place c.args.self.now.covered c.requires in
    place_same away_in _ c.args.self.now.ranges.items hulls c.set_word.new.hulls.items region (changed (hull_at hulls region) c.args.place.index c.args.word)
    (index_short hulls region c.args.place.index has) c.set_word.ensures (λ i. refl)
