use Rattle.cd_foot.proofs.ClearLemmas.{ClearSo}
use Rattle.cd_foot.proofs.clear.is_clear.Given as goal

abbrev pub invariant-loop-k : goal.invariant-loop-k
invariant-loop-k l = ClearSo l.feet l.members l.order l.k l.hulls
