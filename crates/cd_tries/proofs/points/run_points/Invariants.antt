use Rattle.std.proofs.Common.{◌≡◌, drop}
use Rattle.cd_tries.specs.Fitting.{CanRun}
use Rattle.cd_tries.specs.Running.{run_to}
use Rattle.cd_tries.proofs.points.run_points.Given as goal

abbrev pub invariant-loop-point : goal.invariant-loop-point
invariant-loop-point g l = record {
  runs : CanRun (g.F.Field.model l.field).node l.domain (g.F.Field.model l.field);
  left : run_to l.halts (g.F.Field.model l.field) l.point (drop l.point l.domain.items)
      ≡ run_to l.halts (g.F.Field.model l.fn.field) l.fn.from (drop l.fn.from l.domain.items);
}
