use Rattle.cd_app.proofs.RunLemmas.{counts_length, record_short, regions_present}
use Rattle.cd_app.proofs.run.report.Goals as goal

pub write_run-requires-clause-present : goal.write_run-requires-clause-present
write_run-requires-clause-present g c κs within =
    regions_present c.words_stay.ensures c.args.document.now c.requires.0 (g.F.Field.model c.args.machine.now) c.requires.1.holds

pub write_run-requires-clause-short : goal.write_run-requires-clause-short
write_run-requires-clause-short g c κs within =
    record_short c.args.document.now c.requires.0 (g.F.Field.model c.args.machine.now)
    (c.records_are_short.ensures.accepted c.args.document.now.tree c.requires.0 c.count.ensures.sound c.requires.2) c.requires.1.holds

pub write_run-requires-clause-counts : goal.write_run-requires-clause-counts
write_run-requires-clause-counts g c κs within =
    counts_length c.args.document.now c.requires.0 (g.F.Field.model c.args.machine.now) c.args.begins.now _ c.requires.1

pub write_run-requires-clause-total : goal.write_run-requires-clause-total
write_run-requires-clause-total g c κs within = c.requires.1.total
