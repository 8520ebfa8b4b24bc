use Rattle.std.proofs.Common.{drop, ap, subst, sym, ◌∙◌}
use Rattle.cd_tree.specs.declared.domain.Item.TheVariants as item
use Rattle.cd_field.specs.FieldModel.{FieldModel}
use Rattle.cd_tries.specs.declared.points.Arrival.TheVariants as at
use Rattle.cd_tries.specs.Fitting.{CanRun}
use Rattle.cd_tries.specs.Running.{run_ends}
use Rattle.cd_tries.proofs.Pointing.{stops_halted, runs_reached, runs_computed, op_present, item_stays}
use Rattle.cd_tries.proofs.points.pass_point.Goals as goal

pub returns-then-not-branch-clause-stop : goal.returns-then-not-branch-clause-stop
returns-then-not-branch-clause-stop g c =
    stops_halted c.args.halts (g.F.Field.model c.args.field.now) c.args.point (drop c.args.point c.args.domain.now.items)
    (sym c.in_ok-come_to.ensures.quiet ∙ c.if-not-branch.true)
    ∙ ap (λ (v : FieldModel). run_ends v at.Halt) (sym c.in_ok-come_to.ensures.field)

pub returns-then-not-branch-clause-runs : goal.returns-then-not-branch-clause-runs
returns-then-not-branch-clause-runs g c =
    let P : FieldModel → Type 0 = λ v. CanRun v.node c.args.domain.now v in
    subst P (sym c.in_ok-come_to.ensures.field)
    (runs_reached (g.F.Field.model c.args.field.now).node c.args.domain.now (g.F.Field.model c.args.field.now) c.args.point c.requires.runs)

pub apply-requires-clause-present : goal.apply-requires-clause-present
apply-requires-clause-present g c =
    λ _ _.
    let m : FieldModel = g.F.Field.model c.come_to.new.field in
    let P : FieldModel → Type 0 = λ v. CanRun v.node c.args.domain.now v in
    op_present m.node c.args.domain.now m c.in-Run.op
    (subst P (sym c.in_ok-come_to.ensures.field)
    (runs_reached (g.F.Field.model c.args.field.now).node c.args.domain.now (g.F.Field.model c.args.field.now) c.args.point c.requires.runs))
    (item_stays c.args.domain.now.entries c.args.domain.now.items c.items.result.now c.args.point c.index-items-point.result (item.Run c.in-Run.op)
    c.requires.runs.sound.stays c.requires.inside c.items.ensures.value c.index-items-point.is c.in-Run.is)

pub returns-in-Run-clause-runs : goal.returns-in-Run-clause-runs
returns-in-Run-clause-runs g c =
    let m : FieldModel = g.F.Field.model c.come_to.new.field in
    let P : FieldModel → Type 0 = λ v. CanRun v.node c.args.domain.now v in
    subst P (sym c.apply.ensures)
    (runs_computed m.node c.args.domain.now m c.in-Run.op
    (subst P (sym c.in_ok-come_to.ensures.field)
    (runs_reached (g.F.Field.model c.args.field.now).node c.args.domain.now (g.F.Field.model c.args.field.now) c.args.point c.requires.runs)))

pub returns-in-Group-clause-runs : goal.returns-in-Group-clause-runs
returns-in-Group-clause-runs g c =
    let P : FieldModel → Type 0 = λ v. CanRun v.node c.args.domain.now v in
    subst P (sym c.in_ok-come_to.ensures.field)
    (runs_reached (g.F.Field.model c.args.field.now).node c.args.domain.now (g.F.Field.model c.args.field.now) c.args.point c.requires.runs)
