use Rattle.std.proofs.Common.{ℕ, List, refl}
use Rattle.cd_field.specs.Hulls.{HullModel, hull_at, HasIndex, cleared}
use Rattle.cd_field.proofs.HullLemmas.{word_of, index_known, index_short, covered_changed, place_cleared, place_same}
use Rattle.cd_field.proofs.flat_words.FlatWords.clear.Goals as goal

pub clear_word-requires : goal.clear_word-requires
clear_word-requires c = index_known c.args.self.now.ranges.items c.args.self.now.hulls.items c.args.place c.args.self.now.covered c.requires

pub invariant_of-self : goal.invariant_of-self
invariant_of-self c =
    let hulls : List HullModel = c.args.self.now.hulls.items in
    let region : ℕ = c.args.place.region in
    let has : HasIndex (hull_at hulls region) c.args.place.index =
    index_known c.args.self.now.ranges.items hulls c.args.place c.args.self.now.covered c.requires in
    record {
      covered = covered_changed c.args.self.now.ranges.items hulls c.clear_word.new.hulls.items region (cleared (hull_at hulls region) c.args.place.index)
          c.args.self.now.covered (index_short hulls region c.args.place.index has) refl refl c.clear_word.ensures;
    }

pub returns-clause-words : goal.returns-clause-words
returns-clause-words c =
    let hulls : List HullModel = c.args.self.now.hulls.items in
    let region : ℕ = c.args.place.region in
    let has : HasIndex (hull_at hulls region) c.args.place.index =
    index_known c.args.self.now.ranges.items hulls c.args.place c.args.self.now.covered c.requires in
    place_same word_of _ c.args.self.now.ranges.items hulls c.clear_word.new.hulls.items region (cleared (hull_at hulls region) c.args.place.index)
    (index_short hulls region c.args.place.index has) c.clear_word.ensures (λ i. refl)

pub returns-clause-lost : goal.returns-clause-lost
returns-clause-lost c =
    place_cleared c.args.self.now.ranges.items c.args.self.now.hulls.items c.clear_word.new.hulls.items c.args.place c.args.self.now.covered
    c.requires c.clear_word.ensures
