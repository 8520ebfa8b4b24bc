use Rattle.cd_foot.specs.Gathered.{AreFeetFrom}
use Rattle.cd_foot.proofs.footprints.Footprints.of.Given as goal

abbrev pub invariant-loop-id : goal.invariant-loop-id
invariant-loop-id l = AreFeetFrom l.id l.tree.domains l.feet.items
