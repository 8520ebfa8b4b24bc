use Rattle.cd_speed.proofs.Timed.{fewer}
use Rattle.cd_speed.proofs.refills.refill_whole.Goals as goal

pub refill_turns-requires-clause-loaded : goal.refill_turns-requires-clause-loaded
refill_turns-requires-clause-loaded g c κs within = fewer (g.F.Field.model c.args.field.now) c.requires.loaded
