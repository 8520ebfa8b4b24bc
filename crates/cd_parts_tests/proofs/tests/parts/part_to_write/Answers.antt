use Rattle.std.proofs.Common.{refl}
use Rattle.cd_field.specs.FieldModel.{without}
use Rattle.cd_parts_tests.proofs.TrialLemmas.{whole_present, one_present, part_ready, may_come_back, has_lent, same_as}
use Rattle.cd_parts_tests.proofs.tests.parts.part_to_write.Goals as goal

pub carve-requires-clause-reads : goal.carve-requires-clause-reads
carve-requires-clause-reads g c =
    whole_present (g.F.Field.model c.args.field.now) c.in_ok-reads.reads c.in_ok-reads.ensures c.requires.ready

pub carve-requires-clause-writes : goal.carve-requires-clause-writes
carve-requires-clause-writes g c =
    one_present (g.F.Field.model c.args.field.now) c.in_ok-writes.writes c.args.index c.requires.within c.in_ok-writes.ensures c.requires.ready

pub returns-clause-ready : goal.returns-clause-ready
returns-clause-ready g c =
    part_ready (g.F.Field.model c.args.field.now) (g.F.Field.model c.in_ok-part.part) c.in_ok-reads.reads c.in_ok-writes.writes
    c.in_ok-reads.ensures c.in_ok-part.ensures.part c.requires.ready

pub returns-clause-mine : goal.returns-clause-mine
returns-clause-mine g c =
    may_come_back (g.F.Field.model c.args.field.now) _ (g.F.Field.model c.in_ok-part.part) c.in_ok-reads.reads c.in_ok-writes.writes
    c.args.index c.in_ok-writes.ensures c.in_ok-part.ensures.part c.in_ok-part.ensures.rest

pub returns-clause-lent : goal.returns-clause-lent
returns-clause-lent g c =
    has_lent (g.F.Field.model c.args.field.now) _ c.in_ok-writes.writes c.args.index c.in_ok-writes.ensures c.in_ok-part.ensures.rest
    c.requires.ready

pub returns-clause-same : goal.returns-clause-same
returns-clause-same g c =
    same_as (g.F.Field.model c.args.field.now) (without (g.F.Field.model c.args.field.now) c.in_ok-writes.writes) _ c.in_ok-part.ensures.rest refl refl
