use Rattle.std.proofs.Common.{◌≡◌, take}
use Rattle.cd_tries.specs.Preserving.{shared_each}
use Rattle.cd_tries.proofs.sharing.share_all.Given as goal

abbrev pub invariant-loop-number : goal.invariant-loop-number
invariant-loop-number g l = g.P.Pass.model l.pass ≡ shared_each (g.P.Pass.model l.fn.pass) (take l.number l.ids)
