use Rattle.cd_field.specs.Flat.{flat_words}
use Rattle.cd_field.proofs.PartLemmas.{in_nth, still_known}
use Rattle.cd_field.proofs.flat_parts.mark_ranges.Goals as goal

pub mark_range-requires : goal.mark_range-requires
mark_range-requires c q h =
    still_known (flat_words c.loop-range.words)
    (flat_words c.args.words.now) q (c.loop-range.invariant.words q)
    (c.requires q (in_nth c.args.ranges.now c.loop-range.range-index q c.loop-range-test.true h))
