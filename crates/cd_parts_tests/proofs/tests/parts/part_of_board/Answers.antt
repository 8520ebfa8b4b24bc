use Rattle.cd_parts_tests.proofs.TrialLemmas.{whole_present, none_present, part_ready, rest_ready}
use Rattle.cd_parts_tests.proofs.tests.parts.part_of_board.Goals as goal

pub carve-requires-clause-reads : goal.carve-requires-clause-reads
carve-requires-clause-reads g c =
    whole_present (g.F.Field.model c.args.field.now) c.in_ok-reads.reads c.in_ok-reads.ensures c.requires

pub carve-requires-clause-writes : goal.carve-requires-clause-writes
carve-requires-clause-writes g c = none_present (g.F.Field.model c.args.field.now) c.new-none.result c.new-none.ensures

pub returns-clause-part : goal.returns-clause-part
returns-clause-part g c =
    part_ready (g.F.Field.model c.args.field.now) (g.F.Field.model c.in_ok-part.part) c.in_ok-reads.reads c.new-none.result c.in_ok-reads.ensures
    c.in_ok-part.ensures.part c.requires

pub returns-clause-rest : goal.returns-clause-rest
returns-clause-rest g c =
    rest_ready (g.F.Field.model c.args.field.now) _ c.new-none.result c.new-none.ensures c.in_ok-part.ensures.rest c.requires
