use Rattle.std.proofs.Common.{◌<◌, ◌≤◌, arith}
use Rattle.cd_base.specs.declared.place.Place.{Place}
use Rattle.cd_speed.specs.Timed.{HasRegions}
use Rattle.cd_speed.proofs.Handed.{refilled_has}
use Rattle.cd_speed.proofs.Timed.{place_inside, span, still_there}
use Rattle.cd_speed.proofs.refills.refill_and_read.Goals as goal

pub refill_run-requires-clause-known : goal.refill_run-requires-clause-known
refill_run-requires-clause-known g c p h =
    let there : HasRegions (g.F.Field.model c.write.new.self) 1 =
    still_there (g.F.Field.model c.args.field.now) (g.F.Field.model c.write.new.self) 1 _ _ c.write.ensures c.requires.loaded in
    let at : (1 ≤ p.region) × (p.region < 6) × (p.index < 330002) =
    place_inside 1 (span 1 0 330000) p (record { first = omega arith; region = omega arith; high = omega arith }) h in
    (there.each p at.0 at.1 at.2).known

pub read-requires : goal.read-requires
read-requires g c =
    let there : HasRegions (g.F.Field.model c.write.new.self) 1 =
    still_there (g.F.Field.model c.args.field.now) (g.F.Field.model c.write.new.self) 1 _ _ c.write.ensures c.requires.loaded in
    let at : Place = record { region = 1; index = c.args.index } in
    (refilled_has (g.F.Field.model c.write.new.self) (g.F.Field.model c.refill_run.new.self) (span 1 0 330000) c.args.words.now c.refill_run.ensures there).each
    at (omega arith) (omega arith) (omega (arith, c.requires.within))

pub returns : goal.returns
returns g c =
    let there : HasRegions (g.F.Field.model c.write.new.self) 1 =
    still_there (g.F.Field.model c.args.field.now) (g.F.Field.model c.write.new.self) 1 _ _ c.write.ensures c.requires.loaded in
    refilled_has (g.F.Field.model c.write.new.self) (g.F.Field.model c.refill_run.new.self) (span 1 0 330000) c.args.words.now c.refill_run.ensures there
