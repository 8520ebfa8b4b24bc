use Rattle.std.proofs.Common.{sym, subst}
use Rattle.cd_cover.specs.Plans.{IsPlan}
use Rattle.cd_core.specs.StateModel.{state_model}
use Rattle.cd_cells.proofs.Siblings.{siblings_short}
use Rattle.cd_cells.proofs.StatesLawful.{lawful}
use Rattle.cd_cells.proofs.start.open_cells.Goals as goal

pub open-requires-clause-lawful : goal.open-requires-clause-lawful
open-requires-clause-lawful g c =
    let is_plan : IsPlan c.of.result.value = subst IsPlan (sym c.of.ensures) c.tree.ensures.sound in
    lawful (state_model g.F.Field.model g.P.Pass.model) c.the_nested_view_follows_the_list.ensures c.children_stand_once.ensures.stand
    c.children_stand_once.ensures.once c.children_stand_once.ensures.children c.of.result.value (g.F.Field.model c.of-2.result.value).script
    (g.F.Field.model c.of-2.result.value).words is_plan

pub open-requires-clause-widest : goal.open-requires-clause-widest
open-requires-clause-widest g c = λ m. siblings_short c.of.result.value m (subst IsPlan (sym c.of.ensures) c.tree.ensures.sound)
