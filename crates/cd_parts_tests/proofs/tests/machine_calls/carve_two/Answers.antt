use Rattle.cd_parts_tests.proofs.TrialLemmas.{part_there}
use Rattle.cd_parts_tests.proofs.tests.machine_calls.carve_two.Goals as goal

pub returns : goal.returns
returns g c =
    part_there (g.F.Field.model c.args.field.now) (g.F.Field.model c.in_ok-part.part) c.in_ok-reads.reads c.in_ok-writes.writes
    c.in_ok-writes.ensures c.in_ok-part.ensures.part c.requires
