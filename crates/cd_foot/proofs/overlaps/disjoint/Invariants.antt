use Rattle.std.proofs.Common.{drop}
use Rattle.cd_tree.specs.Domains.{nodes_from}
use Rattle.cd_foot.proofs.OverlapLemmas.{Leads, OfDomain}
use Rattle.cd_foot.proofs.overlaps.disjoint.Given as goal

abbrev pub invariant-loop-id : goal.invariant-loop-id
invariant-loop-id l = Leads OfDomain (drop l.id (nodes_from 0 l.tree.domains)) (nodes_from 0 l.tree.domains)
