use Rattle.std.proofs.Common.{List, drop}
use Rattle.cd_tree.specs.declared.domain.Domain.{Domain}
use Rattle.cd_tree.specs.Domains.{node_of, body_by}
use Rattle.cd_foot.specs.Feet.{AreFeet}
use Rattle.cd_foot.specs.Overlaps.{sibling_pairs, OverlapOf}
use Rattle.cd_foot.proofs.OverlapLemmas.{Leads}
use Rattle.cd_foot.proofs.overlaps.items_apart.Given as goal

abbrev pub invariant-loop-item : goal.invariant-loop-item
invariant-loop-item l =
    (domains : List Domain) → AreFeet domains l.feet
    → Leads OverlapOf (sibling_pairs (body_by (node_of domains) (drop l.item-index l.items)))
    (sibling_pairs (body_by (node_of domains) l.items))
