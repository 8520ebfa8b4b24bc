use Rattle.std.proofs.Common.{[], ap, sym, subst, ◌∙◌}
use Rattle.cd_core.specs.Steps.{CanMove}
use Rattle.cd_cells.proofs.alone.take_up.Goals as goal

pub work_on-requires-clause-plan : goal.work_on-requires-clause-plan
work_on-requires-clause-plan g c κs within =
    ap (λ key. key.plan.value) c.claim.ensures.same.key ∙ c.requires.plan

pub work_on-requires-clause-goes : goal.work_on-requires-clause-goes
work_on-requires-clause-goes g c κs within =
    let won = c.in-Some.ensures.claims [] c.requires.works in
    record { ask = won.ask; works = won.now; moves = subst CanMove (sym won.ready.0) tt; answers = won.ready.1 }

pub returns-in_ok-push-in-None-clause-done : goal.returns-in_ok-push-in-None-clause-done
returns-in_ok-push-in-None-clause-done g c = (c.in-None.ensures.claims [] c.requires.works).now
