use Rattle.cd_field.specs.EventLists.{events_of}
use Rattle.cd_field.proofs.EventLemmas.{front_copied}
use Rattle.cd_field.proofs.event_list.EventList.copy.Goals as goal

pub loop-k-preserved : goal.loop-k-preserved
loop-k-preserved c =
    front_copied (events_of c.args.self.now.parts.parts.items c.args.self.now.latest.items) c.loop-k.list.items c.add_front.new.list.items _
    c.rest-rest.result.now c.loop-k.k c.args.to c.in_ok-count.count c.in_ok-count.ensures.count c.rest-rest.ensures.front
    c.in_ok-count.ensures.items c.loop-k.invariant
