use Rattle.std.proofs.Common.{◌≡◌, map, take}
use Rattle.cd_tree.specs.Domains.{nodes_from}
use Rattle.cd_cover.specs.Plans.{links_of}
use Rattle.cd_cover.proofs.links.all_links.Given as goal

abbrev pub invariant-loop-k : goal.invariant-loop-k
invariant-loop-k l = l.links.items ≡ map (links_of l.tree) (take l.k (nodes_from 0 l.tree.domains))
