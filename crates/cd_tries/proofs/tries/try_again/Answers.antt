use Rattle.std.proofs.Common.{◌≡◌, IfOk, subst, sym}
use Rattle.cd_field.specs.FieldModel.{FieldModel}
use Rattle.cd_keep.specs.PassModel.{PassModel}
use Rattle.cd_tries.specs.declared.tries.Course.{Course}
use Rattle.cd_tries.specs.Fitting.{CanTry}
use Rattle.cd_tries.specs.Running.{Means, means, stops, Tried, tries_from}
use Rattle.cd_tries.proofs.Trying.{tries_again, again_first}
use Rattle.cd_tries.proofs.tries.try_again.Goals as goal

pub more_tries-requires-clause-tries : goal.more_tries-requires-clause-tries
more_tries-requires-clause-tries g c =
    let with : Means = means c.args.attempt.now.node c.args.attempt.now.domain.now c.args.attempt.now.halts (g.P.Pass.model c.args.pass.now).known c.args.attempt.now.keeps.now in
    let n : FieldModel = g.F.Field.model c.one_more.new.field in
    let q : PassModel = g.P.Pass.model c.one_more.new.pass in
    let P : PassModel → Type 0 = λ v. CanTry (means c.args.attempt.now.node c.args.attempt.now.domain.now c.args.attempt.now.halts v.known c.args.attempt.now.keeps.now) n q in
    λ _ _. subst P (sym c.in_ok-stop.ensures.pass)
    (tries_again with c.saturating_add-begin.result (g.F.Field.model c.args.field.now) n (g.P.Pass.model c.args.pass.now) q c.in_ok-stop.stop c.requires.tries
    c.in_ok-stop.ensures.field c.in_ok-stop.ensures.pass)

pub returns-clause-course : goal.returns-clause-course
returns-clause-course g c =
    let with : Means = means c.args.attempt.now.node c.args.attempt.now.domain.now c.args.attempt.now.halts (g.P.Pass.model c.args.pass.now).known c.args.attempt.now.keeps.now in
    let n : FieldModel = g.F.Field.model c.one_more.new.field in
    let o : FieldModel = g.F.Field.model c.more_tries.new.field in
    let P : Tried → Type 0 = λ t. IfOk c.more_tries.result (λ (last : Course). t ≡ record { field = o; course = last }) in
    let Q : PassModel → Type 0 = λ v. P (tries_from (means c.args.attempt.now.node c.args.attempt.now.domain.now c.args.attempt.now.halts v.known c.args.attempt.now.keeps.now) c.args.spare c.saturating_add-begin.result (stops n c.in_ok-stop.stop)) in
    subst P (again_first with c.args.spare c.args.begin c.saturating_add-begin.result (g.F.Field.model c.args.field.now) n c.in_ok-stop.stop
    c.saturating_add-begin.ensures c.in_ok-stop.ensures.field)
    (subst Q c.in_ok-stop.ensures.pass c.more_tries.ensures.course)
