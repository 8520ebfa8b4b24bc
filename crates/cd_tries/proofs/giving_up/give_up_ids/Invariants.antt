use Rattle.std.proofs.Common.{drop}
use Rattle.cd_tries.specs.Refilling.{gave_up_each}
use Rattle.cd_tries.proofs.Holding.{IsLeft}
use Rattle.cd_tries.proofs.giving_up.give_up_ids.Given as goal

abbrev pub invariant-loop-id : goal.invariant-loop-id
invariant-loop-id g l =
    IsLeft (g.P.Pass.model l.pass) (gave_up_each (g.P.Pass.model l.fn.pass) l.ids) (drop l.id-index l.ids)
