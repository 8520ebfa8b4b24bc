use Rattle.std.proofs.Common.{◌≡◌, ◌≤◌, ◌-◌}
use Rattle.cd_tree.specs.declared.operation.Op.TheVariants.{Scan}
use Rattle.cd_base.specs.Words.{word_of}
use Rattle.cd_tree.specs.Operations.{nth_word, total}
use Rattle.cd_kernel.proofs.Written.{words_to}
use Rattle.cd_kernel.proofs.operations.scan.Given as goal

abbrev pub invariant-loop-at : goal.invariant-loop-at
invariant-loop-at g l = record {
  within : l.at ≤ l.count;
  sum : l.sum ≡ word_of (total (nth_word (g.F.Field.model l.fn.field).words l.x) l.at);
  written : g.F.Field.model l.field ≡ record (g.F.Field.model l.fn.field) { words = words_to (Scan l.d l.x) (g.F.Field.model l.fn.field).words l.at };
}

abbrev pub decreases-loop-at : goal.decreases-loop-at
decreases-loop-at g l = l.count - l.at
