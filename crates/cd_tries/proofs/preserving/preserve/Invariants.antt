use Rattle.cd_tries.specs.Preserving.{links_for}
use Rattle.cd_tries.proofs.Preserved.{ArePreserved}
use Rattle.cd_tries.proofs.preserving.preserve.Given as goal

abbrev pub invariant-loop-number : goal.invariant-loop-number
invariant-loop-number g l =
    ArePreserved (links_for l.plan.tree.domains l.node l.above) l.number l.entry-items l.keeps
    (g.F.Field.model l.fn.field) (g.F.Field.model l.field) (g.P.Pass.model l.fn.pass) (g.P.Pass.model l.pass)
