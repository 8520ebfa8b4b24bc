use Rattle.cd_state_tests.specs.Sample.{StrikesSample}
use Rattle.cd_state_tests.proofs.tests.tries.script_of.Given as goal

abbrev pub invariant-loop-strike : goal.invariant-loop-strike
invariant-loop-strike l = StrikesSample l.script
