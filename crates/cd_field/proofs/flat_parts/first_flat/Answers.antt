use Rattle.std.proofs.Common.{◌≡◌, ◌∙◌, ap, refl, Some, Option, ℕ, nat_lt}
use Rattle.std.specs.Prelude.{slice_get}
use Rattle.std.proofs.lemmas.Option.{slice_get_read}
use Rattle.cd_base.specs.Words.{Words, pattern_word}
use Rattle.cd_tree.specs.declared.document.Region.{Region}
use Rattle.cd_tree.specs.Meaning.{initial, initial_word}
use Rattle.cd_field.specs.Hulls.{words_by}
use Rattle.cd_field.proofs.PlaceLemmas.{region_choice, all_regions}
use Rattle.cd_field.proofs.flat_parts.first_flat.Goals as goal

pub loop-number-preserved : goal.loop-number-preserved
loop-number-preserved c =
    let regions = c.args.regions.now in
    let number = c.loop-number.number in
    let region = c.index-regions-number.result in
    let before : Words = words_by c.loop-number.ranges.items c.loop-number.hulls.items in
    let after : Words = words_by c.add_region.new.ranges.items c.add_region.new.hulls.items in
    let found : slice_get regions number ≡ Some region =
    slice_get_read regions _ number region refl c.loop-number-test.true c.index-regions-number.is in
    record {
      covered = c.in_ok-add_region.ensures.covered;
      count = c.in_ok-add_region.ensures.count;
      words = λ q. region_choice number q.region (nat_lt q.index region.length) (Some (pattern_word region.pattern q.index)) (initial regions q)
          (before q) (after q) (c.in_ok-add_region.ensures.words q) (c.loop-number.invariant.words q)
          (λ (e : q.region ≡ number). ap (λ (o : Option Region). initial_word o q.index) (ap (λ (n : ℕ). slice_get regions n) e ∙ found));
      lost = λ q. c.in_ok-add_region.ensures.lost q (c.loop-number.invariant.lost q);
    }

pub returns-clause-words : goal.returns-clause-words
returns-clause-words c q =
    c.of.ensures.words q ∙ c.loop-number.invariant.words q ∙ all_regions c.args.regions.now c.loop-number.number c.loop-number-test.false q
