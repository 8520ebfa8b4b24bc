use Rattle.std.proofs.Common.{◌≡◌, max, get_or}
use Rattle.cd_tree.specs.Operations.{greatest}
use Rattle.cd_kernel.proofs.lists.greatest_with.Given as goal

abbrev pub invariant-loop-i : goal.invariant-loop-i
invariant-loop-i l = l.most ≡ max l.initial.most (greatest (λ j. get_or l.words j 0) l.i)
