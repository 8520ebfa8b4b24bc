use Rattle.cd_tries.proofs.Cutting.{AreCopied}
use Rattle.cd_tries.proofs.copying.copy_range.Given as goal

abbrev pub invariant-loop-k : goal.invariant-loop-k
invariant-loop-k g l = AreCopied (g.F.Field.model l.field).words l.range l.k l.ids (g.P.Pass.model l.fn.pass) (g.P.Pass.model l.pass)
