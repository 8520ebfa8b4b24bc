use Rattle.std.proofs.Common.{◌≡◌, ◌+◌, get_or}
use Rattle.cd_base.specs.Words.{word_of}
use Rattle.cd_tree.specs.Operations.{total}
use Rattle.cd_kernel.proofs.lists.add_all.Given as goal

abbrev pub invariant-loop-i : goal.invariant-loop-i
invariant-loop-i l = l.sum ≡ word_of (l.initial.sum + total (λ j. get_or l.words j 0) l.i)
