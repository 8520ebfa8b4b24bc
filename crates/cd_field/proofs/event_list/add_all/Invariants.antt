use Rattle.std.proofs.Common.{◌≡◌, ◌++◌, drop}
use Rattle.cd_field.specs.EventLists.{events_told}
use Rattle.cd_field.proofs.event_list.add_all.Given as goal

abbrev pub invariant-loop-told : goal.invariant-loop-told
invariant-loop-told l = l.list.items ++ events_told (drop l.told-index l.events) ≡ l.initial.list.items ++ events_told l.events
