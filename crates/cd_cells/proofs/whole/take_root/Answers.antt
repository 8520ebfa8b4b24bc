use Rattle.std.proofs.Common.{[], subst, ◌∙◌}
use Rattle.cd_core.specs.Asks.{root_ask}
use Rattle.cd_core.specs.StateModel.{state_model}
use Rattle.cd_cells.specs.declared.start.Start.{Start}
use Rattle.cd_cells.specs.States.{HasEnded}
use Rattle.cd_cells.proofs.whole.take_root.Goals as goal

pub returns-in-Some-close : goal.returns-in-Some-close
returns-in-Some-close g c =
    let field = g.F.Field.model in
    let closed = c.in-Some-close.ensures.closes [] c.loop.invariant.0 in
    let E : Start _ → Type 0 = λ k. HasEnded k.plan.value (field k.field.value).script (field k.field.value).words
    (root_ask k.plan.value (field k.field.value).words) (state_model field g.P.Pass.model c.in-Some-close.root) in
    subst E c.loop.invariant.1.key closed.ended

pub loop-preserved : goal.loop-preserved
loop-preserved g c = (
  (c.in_default.ensures.closes [] c.loop.invariant.0).now,
  record { key = c.close.ensures.same.key ∙ c.loop.invariant.1.key; table = c.close.ensures.same.table ∙ c.loop.invariant.1.table },
)
