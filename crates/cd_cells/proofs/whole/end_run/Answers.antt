use Rattle.std.proofs.Common.{refl}
use Rattle.cd_core.proofs.Outcomes.{few_begins}
use Rattle.cd_cells.proofs.RunLemmas.{root_first, run_ran}
use Rattle.cd_cells.proofs.whole.end_run.Goals as goal

pub outcome_of-requires-clause-root : goal.outcome_of-requires-clause-root
outcome_of-requires-clause-root g c =
    let s = c.requires.started in
    root_first g.F.Field.model g.P.Pass.model c.args.cells.now c.args.plan.now _ s.plan_is refl c.take_root-root.result c.take_root-root.ensures

pub returns-clause-ran : goal.returns-clause-ran
returns-clause-ran g c =
    let s = c.requires.started in
    run_ran g.F.Field.model g.P.Pass.model c.args.cells.now c.args.plan.now _ s.plan_is refl c.roots_answer_and_have_run.ensures.end s.pass
    c.take_root-root.result c.outcome_of.result c.is_settled.ensures s.can c.take_root-root.ensures c.outcome_of.ensures

pub returns-clause-few : goal.returns-clause-few
returns-clause-few g c =
    few_begins g.F.Field.model c.counts_are_at_most_one_more_than_entries.ensures c.args.plan.now _ c.outcome_of.result
    c.is_settled.ensures (returns-clause-ran g c)
