use Rattle.cd_state_tests.specs.Board.{HasBoard}
use Rattle.cd_state_tests.proofs.tests.keeps.spoil.Given as goal

abbrev pub invariant-loop-index : goal.invariant-loop-index
invariant-loop-index g l = HasBoard (g.F.Field.model l.field)
