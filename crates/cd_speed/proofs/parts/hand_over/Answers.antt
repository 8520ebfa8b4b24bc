use Rattle.cd_speed.proofs.Handed.{can_absorb, part_present, reads_present, still_has}
use Rattle.cd_speed.proofs.parts.hand_over.Goals as goal

pub carve-requires-clause-reads : goal.carve-requires-clause-reads
carve-requires-clause-reads g c = reads_present (g.F.Field.model c.args.field.now) c.args.reads.now c.requires.loaded c.requires.reads

pub carve-requires-clause-writes : goal.carve-requires-clause-writes
carve-requires-clause-writes g c = reads_present (g.F.Field.model c.args.field.now) c.args.writes.now c.requires.loaded c.requires.writes

pub change_each-requires-clause-present : goal.change_each-requires-clause-present
change_each-requires-clause-present g c κs within =
    part_present (g.F.Field.model c.args.field.now) (g.F.Field.model c.in_ok-part.part) c.args.reads.now c.args.writes.now c.args.changed.now
    c.requires.loaded c.requires.reads c.requires.writes c.requires.changed c.in_ok-part.ensures.part

pub absorb-requires : goal.absorb-requires
absorb-requires g c =
    can_absorb (g.F.Field.model c.args.field.now) (g.F.Field.model c.in_ok-part.part) _ (g.F.Field.model c.change_each.new.part) c.args.reads.now
    c.args.writes.now c.requires.loaded c.requires.writes c.in_ok-part.ensures.part c.in_ok-part.ensures.rest c.change_each.ensures

pub returns : goal.returns
returns g c =
    still_has (g.F.Field.model c.args.field.now) (g.F.Field.model c.in_ok-part.part) _ (g.F.Field.model c.change_each.new.part)
    (g.F.Field.model c.absorb.new.self) c.args.reads.now c.args.writes.now c.requires.loaded c.requires.writes c.in_ok-part.ensures.part
    c.in_ok-part.ensures.rest c.change_each.ensures c.in_ok-absorb.ensures
