use Rattle.std.proofs.Common.{◌≡◌}
use Rattle.cd_core.specs.StateModel.{state_model}
use Rattle.cd_core.specs.Steps.{IsEnded}
use Rattle.cd_core.proofs.Outcomes.{few_begins}
use Rattle.cd_fork.proofs.Outcomes.{has_run, ran_to, root_came_back, root_can_run}
use Rattle.cd_fork.proofs.run.run_root.Goals as goal

pub run_domain-requires-after_bounds : goal.run_domain-requires-after_bounds
run_domain-requires-after_bounds g c κs within =
    root_can_run c.args.plan.now (g.F.Field.model c.args.field) (g.P.Pass.model c.args.pass) (state_model g.F.Field.model g.P.Pass.model c.in_ok-root.root)
    c.in_ok-root.ensures.exact c.in_ok-root.ensures.fits

pub outcome_of-requires : goal.outcome_of-requires
outcome_of-requires g c =
    let top : c.in_ok-ended.ended.node.0 ≡ 0 =
    root_came_back c.args.plan.now (g.F.Field.model c.args.field) (g.P.Pass.model c.args.pass) (state_model g.F.Field.model g.P.Pass.model c.in_ok-root.root)
    (state_model g.F.Field.model g.P.Pass.model c.in_ok-ended.ended) c.in_ok-root.ensures.exact c.in_ok-ended.ensures in
    let ended : IsEnded c.in_ok-ended.ended.stage = c.in_ok-ended.ensures.ended in
    record { root = top; ended = ended }

pub returns-clause-ran : goal.returns-clause-ran
returns-clause-ran g c =
    ran_to g.F.Field.model g.P.Pass.model c.args.plan.now (g.F.Field.model c.args.field) (g.P.Pass.model c.args.pass) c.in_ok-ended.ended c.outcome_of.result
    (has_run g.F.Field.model g.P.Pass.model c.args.plan.now (g.F.Field.model c.args.field) (g.P.Pass.model c.args.pass)
    (state_model g.F.Field.model g.P.Pass.model c.in_ok-root.root) c.in_ok-ended.ended c.is_settled.ensures c.in_ok-root.ensures.exact
    c.in_ok-root.ensures.stands c.in_ok-ended.ensures)
    c.outcome_of.ensures

pub returns-clause-few : goal.returns-clause-few
returns-clause-few g c =
    few_begins g.F.Field.model c.counts_are_at_most_one_more_than_entries.ensures c.args.plan.now (g.F.Field.model c.args.field) c.outcome_of.result
    c.is_settled.ensures (returns-clause-ran g c)
