use Rattle.std.proofs.Common.{drop}
use Rattle.cd_tree.specs.Domains.{node_of}
use Rattle.cd_cover.proofs.LeastLemmas.{Leaves}
use Rattle.cd_cover.proofs.Steps.{by_members}
use Rattle.cd_cover.proofs.written.first_of_members.Given as goal

abbrev pub invariant-loop-member : goal.invariant-loop-member
invariant-loop-member l =
    Leaves l.found (by_members l.range (node_of l.program.tree.now.domains) (drop l.member-index l.members))
    (by_members l.range (node_of l.program.tree.now.domains) l.members)
