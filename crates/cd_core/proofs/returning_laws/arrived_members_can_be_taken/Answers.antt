use Rattle.cd_core.proofs.Arrived.{arrived_can_be_taken}
use Rattle.cd_core.proofs.returning_laws.arrived_members_can_be_taken.Goals as goal

pub returns : goal.returns
returns c = arrived_can_be_taken c.laws_below.ensures c.a_body_follows_its_items.ensures.group
