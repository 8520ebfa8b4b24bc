use Rattle.cd_base.proofs.UnionLemmas.{by_start-first}
use Rattle.cd_base.proofs.united.earliest.Goals as goal

pub returns-in-Some-None : goal.returns-in-Some-None
returns-in-Some-None c =
    by_start-first c.args.first.now c.args.second.now c.in-Some-None.range c.in-Some-None.rest.now c.in-Some-None.ensures c.in-Some-None.ensures'
