use Rattle.cd_state_tests.specs.Ends.{IsSampleScript}
use Rattle.cd_state_tests.proofs.tests.states.script_of.Given as goal

abbrev pub invariant-loop-begin : goal.invariant-loop-begin
invariant-loop-begin l = IsSampleScript l.script
