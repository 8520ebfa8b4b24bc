-- The ends of tries, domains and groups that the code has, as the reading has them.
use Rattle.std.specs.Prelude.{ℕ, ◌<◌, Bool, true, false, bit_or}
use Rattle.cd_tree.specs.KindSets.{no_kinds}
use Rattle.cd_tree.specs.Reading as reading
use Rattle.cd_tree.specs.Reading.{Blame, blame, TryEnd, NodeEnd, GroupEnd}
use Rattle.cd_reading.specs.declared.ends.Blamed.{Blamed}
use Rattle.cd_reading.specs.declared.ends.Tried.{Tried}
use Rattle.cd_reading.specs.declared.ends.Tried.TheVariants.{Passed, Failed, Broken}
use Rattle.cd_reading.specs.declared.ends.Ended.{Ended}
use Rattle.cd_reading.specs.declared.ends.Ended.TheVariants.{Done, Escalated}
use Rattle.cd_reading.specs.declared.ends.Grouped.{Grouped}
use Rattle.cd_reading.specs.declared.ends.Grouped.TheVariants.{AllDone, SomeEscalated}

abbrev pub blame_of : Blamed → Blame
blame_of blamed = blame blamed.node blamed.kinds

abbrev pub try_end : Tried → TryEnd
try_end (Passed leak) = reading.Passed leak
try_end (Failed cause) = reading.Failed (blame_of cause)
try_end (Broken cause over) = reading.Broken (blame_of cause) over

abbrev pub node_end : Ended → NodeEnd
node_end (Done leak) = reading.Done leak
node_end (Escalated cause over) = reading.Escalated (blame_of cause) over

abbrev pub group_end : Grouped → GroupEnd
group_end (AllDone leaks) = reading.AllDone leaks
group_end (SomeEscalated cause over) = reading.SomeEscalated (blame_of cause) over

-- what the code knows of an end: a cause is among so many domains
abbrev pub CauseFits : ℕ → Blamed → Type 0
CauseFits count cause = cause.node.0 < count

abbrev pub TryFits : ℕ → Tried → Type 0
TryFits count (Passed leak) = Unit {0}
TryFits count (Failed cause) = CauseFits count cause
TryFits count (Broken cause over) = CauseFits count cause

abbrev pub NodeFits : ℕ → Ended → Type 0
NodeFits count (Done leak) = Unit {0}
NodeFits count (Escalated cause over) = CauseFits count cause

abbrev pub GroupFits : ℕ → Grouped → Type 0
GroupFits count (AllDone leaks) = Unit {0}
GroupFits count (SomeEscalated cause over) = CauseFits count cause

-- whether a try failed, so that another may follow
abbrev pub has_failed : TryEnd → Bool
has_failed (reading.Passed leak) = false
has_failed (reading.Failed cause) = true
has_failed (reading.Broken cause over) = false

-- the end of a domain after its last try
abbrev pub last_end : TryEnd → NodeEnd
last_end (reading.Passed leak) = reading.Done leak
last_end (reading.Failed cause) = reading.Escalated cause no_kinds
last_end (reading.Broken cause over) = reading.Escalated cause over

-- the end of a group of one member
abbrev pub alone : NodeEnd → GroupEnd
alone (reading.Done leak) = reading.AllDone leak
alone (reading.Escalated cause over) = reading.SomeEscalated cause over

-- the end of some members, and then of others
abbrev pub groups_joined : GroupEnd → GroupEnd → GroupEnd
groups_joined (reading.AllDone leaks) (reading.AllDone more) = reading.AllDone (bit_or leaks more)
groups_joined (reading.AllDone leaks) (reading.SomeEscalated cause over) = reading.SomeEscalated cause over
groups_joined (reading.SomeEscalated cause over) (reading.AllDone leaks) = reading.SomeEscalated cause over
groups_joined (reading.SomeEscalated cause over) (reading.SomeEscalated other more) = reading.SomeEscalated cause (bit_or over more)
