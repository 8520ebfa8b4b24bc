use Rattle.cd_parts_tests.specs.Trials.{IsReady}
use Rattle.cd_parts_tests.proofs.tests.trials.run_both.Given as goal

abbrev pub invariant-loop-turn : goal.invariant-loop-turn
invariant-loop-turn g l = IsReady (g.F.Field.model l.field) × IsReady (g.G.Field.model l.other)
