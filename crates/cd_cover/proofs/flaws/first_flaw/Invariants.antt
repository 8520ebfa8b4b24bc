use Rattle.std.proofs.Common.{drop}
use Rattle.cd_tree.specs.Domains.{nodes_from}
use Rattle.cd_cover.proofs.FirstLemmas.{DomainsLeft}
use Rattle.cd_cover.proofs.flaws.first_flaw.Given as goal

abbrev pub invariant-loop-k : goal.invariant-loop-k
invariant-loop-k l = DomainsLeft l.program.tree.now.domains (drop l.k (nodes_from 0 l.program.tree.now.domains)) (nodes_from 0 l.program.tree.now.domains)
