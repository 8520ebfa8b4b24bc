use Rattle.std.proofs.Common.{◌≡◌}
use Rattle.cd_tree.proofs.View.{domain_fits}
use Rattle.cd_core.specs.StateModel.{state_model}
use Rattle.cd_core.proofs.Moving.{can_send, few_entries}
use Rattle.cd_core.proofs.state.NodeState.conclude.Goals as goal

pub send-requires-clause-below : goal.send-requires-clause-below
send-requires-clause-below g c κs within =
    (can_send c.groups_can_be_sent.ensures c.args.plan.now (state_model g.F.Field.model g.P.Pass.model c.args.self.now) c.args.domain.now c.args.verdict c.in-Waits.spare
    c.in-Waits.point c.members_at.result.now c.requires.plan c.requires.domain c.requires.fits c.in-Waits.is c.members_at.ensures).0

pub send-requires-clause-can : goal.send-requires-clause-can
send-requires-clause-can g c κs within =
    (can_send c.groups_can_be_sent.ensures c.args.plan.now (state_model g.F.Field.model g.P.Pass.model c.args.self.now) c.args.domain.now c.args.verdict c.in-Waits.spare
    c.in-Waits.point c.members_at.result.now c.requires.plan c.requires.domain c.requires.fits c.in-Waits.is c.members_at.ensures).1

pub escalate-requires-clause-full : goal.escalate-requires-clause-full
escalate-requires-clause-full g c κs within =
    (domain_fits c.args.plan.now.tree c.requires.plan.program c.args.self.now.node c.args.domain.now c.requires.domain).ranges

pub escalate-requires-clause-few : goal.escalate-requires-clause-few
escalate-requires-clause-few g c κs within = few_entries c.args.plan.now c.args.self.now.node c.args.domain.now c.requires.plan c.requires.domain
