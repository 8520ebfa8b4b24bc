use Rattle.cd_speed.proofs.Timed.{all_present, as_present, two_words, five_regions, two_inside, five_inside}
use Rattle.cd_speed.proofs.machine.carved.Goals as goal

pub carve-requires-clause-reads : goal.carve-requires-clause-reads
carve-requires-clause-reads g c =
    as_present (g.F.Field.model c.args.field.now) c.in_ok-reads.reads two_words c.in_ok-reads.ensures.places
    (all_present (g.F.Field.model c.args.field.now) 0 two_words c.requires two_inside)

pub carve-requires-clause-writes : goal.carve-requires-clause-writes
carve-requires-clause-writes g c =
    as_present (g.F.Field.model c.args.field.now) c.in_ok-writes.writes five_regions c.in_ok-writes.ensures.places
    (all_present (g.F.Field.model c.args.field.now) 0 five_regions c.requires five_inside)
