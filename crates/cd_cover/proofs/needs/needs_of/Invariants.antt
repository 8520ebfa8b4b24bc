use Rattle.cd_cover.proofs.NeedLemmas.{NeedsDown}
use Rattle.cd_cover.proofs.needs.needs_of.Given as goal

abbrev pub invariant-loop-k : goal.invariant-loop-k
invariant-loop-k l = NeedsDown l.tree.domains l.k l.needs.items
