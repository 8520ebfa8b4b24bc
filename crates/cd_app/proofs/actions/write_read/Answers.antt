use Rattle.std.proofs.Common.{length}
use Rattle.cd_app.proofs.RunLemmas.{sum_fits}
use Rattle.cd_app.proofs.actions.write_read.Goals as goal

pub write_reading-requires-clause-total : goal.write_reading-requires-clause-total
write_reading-requires-clause-total g c =
    sum_fits c.in-Ok.reading.begins (length c.args.document.now.tree.domains) (length c.args.script.now) c.in-Ok.ensures.few c.in-Ok.ensures.size
    c.count.ensures.sound.few c.requires
