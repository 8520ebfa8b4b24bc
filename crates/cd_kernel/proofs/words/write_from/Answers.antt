use Rattle.std.proofs.Common.{ap, ◌∙◌}
use Rattle.cd_base.specs.declared.place.Range.{Range}
use Rattle.cd_field.specs.FieldModel.{wrote_run}
use Rattle.cd_kernel.proofs.words.write_from.Goals as goal

pub returns : goal.returns
returns g c =
    c.write_run.ensures ∙ ap (λ (r : Range). wrote_run (g.F.Field.model c.args.field.now) r c.args.words.now) c.part.ensures.run
