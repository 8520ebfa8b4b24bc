use Rattle.cd_tries.proofs.Differing.{GivesBelow}
use Rattle.cd_tries.proofs.patterns.first_other.Given as goal

abbrev pub invariant-loop-index : goal.invariant-loop-index
invariant-loop-index g l = GivesBelow (g.F.Field.model l.field).words l.range l.pattern l.index
