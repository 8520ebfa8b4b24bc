use Rattle.std.proofs.Common.{◌≡◌, ◌∙◌, ap, refl, Some, Option, ℕ, nat_lt}
use Rattle.std.specs.Prelude.{slice_get}
use Rattle.std.proofs.lemmas.Option.{slice_get_read}
use Rattle.cd_base.specs.Words.{pattern_word}
use Rattle.cd_tree.specs.declared.document.Region.{Region}
use Rattle.cd_tree.specs.Meaning.{initial, initial_word}
use Rattle.cd_field.specs.Maps.{words_of}
use Rattle.cd_field.proofs.PlaceLemmas.{region_choice, all_regions}
use Rattle.cd_field.proofs.words.first_words.Goals as goal

pub loop-number-preserved : goal.loop-number-preserved
loop-number-preserved c q =
    let regions = c.args.regions.now in
    let number = c.loop-number.number in
    let region = c.index-regions-number.result in
    let found : slice_get regions number ≡ Some region =
    slice_get_read regions _ number region refl c.loop-number-test.true c.index-regions-number.is in
    region_choice number q.region (nat_lt q.index region.length) (Some (pattern_word region.pattern q.index)) (initial regions q)
    (words_of c.loop-number.words q) (words_of c.add_region.new.words q) (c.in_ok-add_region.ensures q) (c.loop-number.invariant q)
    (λ (e : q.region ≡ number). ap (λ (o : Option Region). initial_word o q.index) (ap (λ (n : ℕ). slice_get regions n) e ∙ found))

pub returns : goal.returns
returns c q = c.loop-number.invariant q ∙ all_regions c.args.regions.now c.loop-number.number c.loop-number-test.false q
