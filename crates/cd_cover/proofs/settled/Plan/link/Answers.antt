use Rattle.cd_cover.proofs.PlanLemmas.{link_none}
use Rattle.cd_cover.proofs.settled.Plan.link.Goals as goal

pub returns-clause-none : goal.returns-clause-none
returns-clause-none c =
    link_none _ _ c.self.view_is c.self.invariant c.args.node c.args.entry c.requires c.index.result.now c.items.result.now c.index.ensures
    c.items.ensures.value
