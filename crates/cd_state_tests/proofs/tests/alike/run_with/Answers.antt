use Rattle.cd_state_tests.proofs.GroupLemmas.{legible}
use Rattle.cd_state_tests.proofs.tests.alike.run_with.Goals as goal

pub returns-then-way : goal.returns-then-way
returns-then-way g c =
    legible g.F.Field.model c.args.plan.now (g.F.Field.model c.in_ok-field.field) c.in_ok-outcome.outcome c.is_settled.ensures c.in_ok-outcome.ensures

pub returns : goal.returns
returns g c =
    legible g.F.Field.model c.args.plan.now (g.F.Field.model c.in_ok-field.field) c.in_ok-outcome-2.outcome c.is_settled.ensures c.in_ok-outcome-2.ensures
