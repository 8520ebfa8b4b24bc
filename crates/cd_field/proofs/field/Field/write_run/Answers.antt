use Rattle.std.proofs.Common.{◌∙◌}
use Rattle.cd_field.proofs.RunLemmas.{refilled_present}
use Rattle.cd_field.proofs.field.Field.write_run.Goals as goal

pub returns : goal.returns
returns g c = c.refill_run.ensures ∙ refilled_present (g.Self.Field.model c.args.self.now) c.args.range c.args.words.now c.requires.present
