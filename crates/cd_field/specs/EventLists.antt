-- Events as they are kept, and a list of them in parts, each of which knows how many events stand before it.
use Rattle.std.specs.Prelude.{◌≡◌, ℕ, ◌*◌, ◌^◌, ◌<◌, ◌≤◌, List, [], ◌∷◌, ◌++◌, length, map, take, slice_index_or}
use Rattle.cd_tree.specs.declared.event.Event.{Event}
use Rattle.cd_tree.specs.declared.event.Event.TheVariants as event
use Rattle.cd_field.specs.declared.told.Told.{Told}
use Rattle.cd_field.specs.declared.told.Told.TheVariants.{Begin, Saved, Refilled, Reached, Halted, Found, Complete, Escalate, Wide}
use Rattle.cd_field.specs.declared.event_list.Part.{Part}

-- the event that is kept so
abbrev pub event_told : Told → Event
event_told (Begin node number) = event.Begin node number
event_told (Saved node entry how) = event.Saved node entry how
event_told (Refilled node entry) = event.Refilled node entry
event_told (Reached node point) = event.Reached node point
event_told (Halted node kinds) = event.Halted node kinds
event_told (Found node kinds) = event.Found node kinds
event_told (Complete node) = event.Complete node
event_told (Escalate node) = event.Escalate node
event_told (Wide room) = room.value

-- the events that are kept so
abbrev pub events_told : List Told → List Event
events_told told = map event_told told

-- the events of parts in order
abbrev pub events_in : List Part → List Event
events_in [] = []
events_in (part ∷ parts) = events_told part.events.items ++ events_in parts

-- how many events stand before the i-th part
abbrev pub before_part : List Part → ℕ → ℕ
before_part parts i = length (events_in (take i parts))

-- each part knows how many events stand before it, and there are so many in all; no part has 2 ^ 64
pub record IsNumbered (parts : List Part) (count : ℕ) : Type 0 where
  pub first : (i : ℕ) (none : Part) → i < length parts → (slice_index_or parts i none).first ≡ before_part parts i
  pub whole : count ≡ length (events_in parts)
  pub few : count ≤ length parts * 2 ^ 64

-- all events of a list: those of its parts, then the latest
abbrev pub events_of : List Part → List Told → List Event
events_of parts latest = events_in parts ++ events_told latest
