use Rattle.std.proofs.Common.{◌≡◌, ◌++◌}
use Rattle.std.specs.Vec.Iter.{into_iter_items}
use Rattle.cd_field.specs.EventLists.{events_in, events_of}
use Rattle.cd_field.proofs.event_list.EventList.append.Given as goal

abbrev pub invariant-loop-part : goal.invariant-loop-part
invariant-loop-part l =
    events_of l.self.parts.parts.items l.self.latest.items ++ events_in (into_iter_items l.part-iterator)
    ≡ events_of l.initial.self.parts.parts.items l.initial.self.latest.items ++ events_in l.fn.other.parts.parts.items
