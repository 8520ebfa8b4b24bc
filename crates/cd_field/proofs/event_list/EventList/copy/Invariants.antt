use Rattle.std.proofs.Common.{◌≡◌, ◌-◌, ◌++◌, take, drop}
use Rattle.cd_field.specs.EventLists.{events_of}
use Rattle.cd_field.proofs.event_list.EventList.copy.Given as goal

abbrev pub invariant-loop-k : goal.invariant-loop-k
invariant-loop-k l =
    l.list.items ++ take (l.to - l.k) (drop l.k (events_of l.self.parts.parts.items l.self.latest.items))
    ≡ l.initial.list.items ++ take (l.to - l.from) (drop l.from (events_of l.self.parts.parts.items l.self.latest.items))

abbrev pub decreases-loop-k : goal.decreases-loop-k
decreases-loop-k l = l.to - l.k
