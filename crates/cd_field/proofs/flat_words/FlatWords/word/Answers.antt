use Rattle.std.proofs.Common.{◌∙◌, ℕ, List, Some, ap, sym, subst}
use Rattle.cd_field.specs.Hulls.{HullModel, hull_at, HasIndex, word_in}
use Rattle.cd_field.proofs.HullLemmas.{index_known, word_known}
use Rattle.cd_field.proofs.flat_words.FlatWords.word.Goals as goal

pub word_of-requires : goal.word_of-requires
word_of-requires c =
    let P : List HullModel → Type 0 = λ v. HasIndex (hull_at v c.args.place.region) c.args.place.index in
    subst P (sym c.deref.ensures.value)
    (index_known c.args.self.now.ranges.items c.args.self.now.hulls.items c.args.place c.args.self.now.covered c.requires)

pub returns : goal.returns
returns c =
    word_known c.args.self.now.ranges.items c.args.self.now.hulls.items c.args.place c.requires
    ∙ ap (λ (v : List HullModel). Some (word_in (hull_at v c.args.place.region) c.args.place.index)) (sym c.deref.ensures.value)
    ∙ ap (λ (n : ℕ). Some n) (sym c.word_of.ensures)
