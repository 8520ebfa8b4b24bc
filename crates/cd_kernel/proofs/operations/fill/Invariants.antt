use Rattle.std.proofs.Common.{◌≡◌, ◌≤◌, ◌-◌}
use Rattle.cd_tree.specs.declared.operation.Op.TheVariants.{Fill}
use Rattle.cd_kernel.proofs.Written.{words_to}
use Rattle.cd_kernel.proofs.operations.fill.Given as goal

abbrev pub invariant-loop-at : goal.invariant-loop-at
invariant-loop-at g l = record {
  within : l.at ≤ l.count;
  written : g.F.Field.model l.field ≡ record (g.F.Field.model l.fn.field) { words = words_to (Fill l.d l.word) (g.F.Field.model l.fn.field).words l.at };
}

abbrev pub decreases-loop-at : goal.decreases-loop-at
decreases-loop-at g l = l.count - l.at
