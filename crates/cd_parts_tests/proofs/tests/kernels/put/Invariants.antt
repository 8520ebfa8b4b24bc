use Rattle.cd_parts_tests.specs.OneRegion.{HasBoard}
use Rattle.cd_parts_tests.proofs.tests.kernels.put.Given as goal

abbrev pub invariant-loop-word : goal.invariant-loop-word
invariant-loop-word g l = HasBoard (g.F.Field.model l.field)
