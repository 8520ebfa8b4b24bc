use Rattle.std.proofs.Common.{◌≡◌, ℕ, ◌+◌, ◌*◌, ◌<◌, get_or}
use Rattle.cd_base.specs.Words.{word_of}
use Rattle.cd_kernel.proofs.lists.weigh.Given as goal

abbrev pub invariant-loop-i : goal.invariant-loop-i
invariant-loop-i l = (j : ℕ) → j < l.i → get_or l.words j 0 ≡ word_of (l.a * get_or l.more j 0 + l.b * get_or l.more (j + 1) 0 + l.c * get_or l.more (j + 2) 0)
