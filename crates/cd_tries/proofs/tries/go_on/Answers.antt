use Rattle.std.proofs.Common.{◌≡◌, IfOk, subst, sym}
use Rattle.cd_field.specs.FieldModel.{FieldModel}
use Rattle.cd_tries.specs.declared.tries.Course.{Course}
use Rattle.cd_tries.specs.Running.{Means, means, Trial, tries_from}
use Rattle.cd_tries.proofs.Trying.{can_run, tries_first}
use Rattle.cd_tries.proofs.tries.go_on.Goals as goal

pub finish_try-requires-clause-runs : goal.finish_try-requires-clause-runs
finish_try-requires-clause-runs g c =
    let with : Means = means c.args.attempt.now.node c.args.attempt.now.domain.now c.args.attempt.now.halts (g.P.Pass.model c.args.pass.now).known c.args.attempt.now.keeps.now in
    λ _ _. can_run with (g.F.Field.model c.args.field.now) (g.P.Pass.model c.args.pass.now) c.requires.tries c.requires.here c.requires.present

pub more_tries-requires-clause-tries : goal.more_tries-requires-clause-tries
more_tries-requires-clause-tries g c =
    let with : Means = means c.args.attempt.now.node c.args.attempt.now.domain.now c.args.attempt.now.halts (g.P.Pass.model c.args.pass.now).known c.args.attempt.now.keeps.now in
    λ _ _. tries_first with c.args.point (g.F.Field.model c.args.field.now) (g.F.Field.model c.finish_try.new.field) (g.P.Pass.model c.args.pass.now)
    c.in_ok-stop.stop c.requires.tries c.requires.here c.requires.present c.requires.point c.in_ok-stop.ensures

pub returns-clause-course : goal.returns-clause-course
returns-clause-course g c =
    let with : Means = means c.args.attempt.now.node c.args.attempt.now.domain.now c.args.attempt.now.halts (g.P.Pass.model c.args.pass.now).known c.args.attempt.now.keeps.now in
    let n : FieldModel = g.F.Field.model c.more_tries.new.field in
    let P : Trial → Type 0 = λ t. IfOk c.more_tries.result (λ (last : Course). tries_from with c.args.spare c.args.begin t ≡ record { field = n; course = last }) in
    subst P (sym c.in_ok-stop.ensures) c.more_tries.ensures.course
