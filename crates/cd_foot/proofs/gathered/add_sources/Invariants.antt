use Rattle.std.proofs.Common.{◌≡◌, ◌++◌, drop}
use Rattle.cd_tree.specs.Operations.{op_reads}
use Rattle.cd_foot.proofs.gathered.add_sources.Given as goal

abbrev pub invariant-loop-k : goal.invariant-loop-k
invariant-loop-k l = l.ranges.items ++ drop l.k (op_reads l.op) ≡ l.fn.ranges.items ++ op_reads l.op
