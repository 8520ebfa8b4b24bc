use Rattle.std.proofs.Common.{length, refl, arith}
use Rattle.std.proofs.lemmas.Option.{slice_get_read}
use Rattle.cd_report.proofs.regions.add_regions.Goals as goal

pub add_region-requires-after_bounds : goal.add_region-requires-after_bounds
add_region-requires-after_bounds g c κs within = λ i h. c.requires.present c.loop-number.number i c.index-regions-number.result
    (slice_get_read c.args.regions.now (length c.args.regions.now) c.loop-number.number c.index-regions-number.result refl (omega arith) c.index-regions-number.is)
    h
