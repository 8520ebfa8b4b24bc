use Rattle.cd_speed.specs.Timed.{Stays}
use Rattle.cd_speed.proofs.parts.change_each.Given as goal

abbrev pub invariant-loop-range : goal.invariant-loop-range
invariant-loop-range g l = Stays (g.F.Field.model l.fn.part) (g.F.Field.model l.part)
