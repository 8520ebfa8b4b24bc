use Rattle.std.proofs.Common.{◌∙◌}
use Rattle.cd_field.specs.EventLists.{events_of}
use Rattle.cd_field.proofs.EventLemmas.{first_told}
use Rattle.cd_field.proofs.event_list.EventList.get.Goals as goal

pub returns : goal.returns
returns c =
    c.first_of.ensures
    ∙ first_told (events_of c.args.self.now.parts.parts.items c.args.self.now.latest.items) c.rest.result.now c.args.k c.rest.ensures.front c.rest.ensures.end
