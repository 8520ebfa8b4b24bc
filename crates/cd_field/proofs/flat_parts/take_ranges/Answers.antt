use Rattle.std.proofs.Common.{◌≡◌, ◌+◌, ◌∙◌, false, ℕ, List, ◌∷◌, drop, ap, sym, if◌then◌else◌}
use Rattle.std.proofs.lemmas.List.{drop_more}
use Rattle.cd_base.specs.declared.place.Range.{Range}
use Rattle.cd_base.specs.Words.{Words, in_ranges}
use Rattle.cd_field.specs.Flat.{flat_words, flat_lost}
use Rattle.cd_field.proofs.PlaceLemmas.{ranges_step}
use Rattle.cd_field.proofs.PartLemmas.{no_range, range_at, in_nth, taken_known}
use Rattle.cd_field.proofs.flat_parts.take_ranges.Goals as goal

pub take_range-requires-clause-known : goal.take_range-requires-clause-known
take_range-requires-clause-known c q h =
    c.loop-range.invariant.known q (in_nth c.args.ranges.now c.loop-range.range-index q c.loop-range-test.true h)

pub take_range-requires-clause-given : goal.take_range-requires-clause-given
take_range-requires-clause-given c q h =
    c.requires.given q (in_nth c.args.ranges.now c.loop-range.range-index q c.loop-range-test.true h)

pub loop-range-preserved : goal.loop-range-preserved
loop-range-preserved c =
    let ranges : List Range = c.args.ranges.now in
    let i : ℕ = c.loop-range.range-index in
    let r : Range = range_at ranges i in
    let others : Words = flat_words c.args.others.now in
    let before : Words = flat_words c.loop-range.words in
    let after : Words = flat_words c.take_range.new.self in
    let left : drop i ranges ≡ r ∷ drop (i + 1) ranges = drop_more ranges i no_range c.loop-range-test.true in
    record {
      known = λ q h. taken_known others before after r q (c.take_range.ensures.words q) (c.requires.given q h) (c.loop-range.invariant.known q h);
      words = λ q. ranges_step others before after r (drop (i + 1) ranges) c.take_range.ensures.words q
          ∙ ap (λ (v : List Range). if in_ranges v q then others q else before q) (sym left) ∙ c.loop-range.invariant.words q;
      lost = λ q. ranges_step (λ p. false) (flat_lost c.loop-range.words) (flat_lost c.take_range.new.self) r (drop (i + 1) ranges) c.take_range.ensures.lost q
          ∙ ap (λ (v : List Range). if in_ranges v q then false else flat_lost c.loop-range.words q) (sym left) ∙ c.loop-range.invariant.lost q;
    }
