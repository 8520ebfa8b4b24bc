use Rattle.std.proofs.Common.{drop}
use Rattle.cd_tries.specs.Keeping.{all_ids}
use Rattle.cd_tries.specs.Refilling.{gave_up_each}
use Rattle.cd_tries.proofs.Holding.{IsLeft}
use Rattle.cd_tries.proofs.giving_up.give_up_all.Given as goal

abbrev pub invariant-loop-keep : goal.invariant-loop-keep
invariant-loop-keep g l =
    IsLeft (g.P.Pass.model l.pass) (gave_up_each (g.P.Pass.model l.fn.pass) (all_ids l.keeps)) (all_ids (drop l.keep-index l.keeps))
