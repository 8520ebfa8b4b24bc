use Rattle.std.proofs.Common.{◌≡◌, List, Some, drop}
use Rattle.cd_tree.specs.declared.domain.Domain.{Domain}
use Rattle.cd_tree.specs.Domains.{Node, node_of, members_by}
use Rattle.cd_foot.specs.Feet.{AreFeet}
use Rattle.cd_foot.specs.Overlaps.{pairs_with, OverlapOf}
use Rattle.cd_foot.proofs.OverlapLemmas.{Leads}
use Rattle.cd_foot.proofs.overlaps.apart_from.Given as goal

abbrev pub invariant-loop-other : goal.invariant-loop-other
invariant-loop-other l =
    (domains : List Domain) (d : Node) → AreFeet domains l.feet → node_of domains l.one ≡ Some d
    → Leads OverlapOf (pairs_with d (members_by (node_of domains) (drop l.other-index l.others)))
    (pairs_with d (members_by (node_of domains) l.others))
