use Rattle.std.proofs.Common.{List, drop}
use Rattle.cd_tree.specs.declared.domain.Domain.{Domain}
use Rattle.cd_tree.specs.Domains.{node_of, members_by}
use Rattle.cd_foot.specs.Feet.{AreFeet}
use Rattle.cd_foot.specs.Overlaps.{pairs_among, OverlapOf}
use Rattle.cd_foot.proofs.OverlapLemmas.{Leads}
use Rattle.cd_foot.proofs.overlaps.pairs_apart.Given as goal

abbrev pub invariant-loop-number : goal.invariant-loop-number
invariant-loop-number l =
    (domains : List Domain) → AreFeet domains l.feet
    → Leads OverlapOf (pairs_among (members_by (node_of domains) (drop l.number l.members)))
    (pairs_among (members_by (node_of domains) l.members))
