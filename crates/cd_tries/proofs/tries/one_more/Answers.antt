use Rattle.cd_field.specs.FieldModel.{FieldModel}
use Rattle.cd_tries.specs.Running.{Means, means}
use Rattle.cd_tries.proofs.Trying.{runs_refilled}
use Rattle.cd_tries.proofs.tries.one_more.Goals as goal

pub finish_try-requires-clause-runs : goal.finish_try-requires-clause-runs
finish_try-requires-clause-runs g c =
    let with : Means = means c.args.attempt.now.node c.args.attempt.now.domain.now c.args.attempt.now.halts (g.P.Pass.model c.args.pass.now).known c.args.attempt.now.keeps.now in
    let m : FieldModel = g.F.Field.model c.args.field.now in
    λ _ _. runs_refilled with c.args.begin m (g.F.Field.model c.restart.new.field) (g.P.Pass.model c.args.pass.now) c.requires.tries
    c.in_ok-restart.ensures.field
