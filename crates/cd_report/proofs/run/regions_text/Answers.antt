use Rattle.std.proofs.Common.{List, subst, sym}
use Rattle.cd_tree.specs.declared.document.Region.{Region}
use Rattle.cd_report.specs.Texts.{AllPresent}
use Rattle.cd_report.proofs.run.regions_text.Goals as goal

pub add_regions-requires-clause-present : goal.add_regions-requires-clause-present
add_regions-requires-clause-present g c κs within = subst (λ (regions : List Region). AllPresent (g.F.Field.model c.args.machine.now) regions) (sym c.items.ensures.value) c.requires
