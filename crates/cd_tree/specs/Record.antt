-- The reading of a whole program: its record, which is the list of its events, and the cause of its ending.
use Rattle.std.specs.Prelude.{List, Option, None, Some}
use Rattle.cd_tree.specs.declared.domain.Domain.{Domain}
use Rattle.cd_tree.specs.declared.document.Fault.{Fault}
use Rattle.cd_tree.specs.declared.event.Cause.{Cause}
use Rattle.cd_tree.specs.declared.event.Event.{Event}
use Rattle.cd_tree.specs.KindSets.{halting}
use Rattle.cd_tree.specs.Domains.{root_of}
use Rattle.cd_tree.specs.TreeModel.{TreeModel}
use Rattle.cd_tree.specs.Scripts.{path_of}
use Rattle.cd_tree.specs.Reading.{Case, no_begins, Told, NodeEnd, Done, Escalated, read_node}

-- a program's case under a script
abbrev pub case_of : TreeModel → List Fault → Case
case_of tree faults = record { halts = halting tree.kinds; faults = faults }

-- the reading of a whole program: the root, with no begin so far
abbrev pub reading : TreeModel → List Fault → Told NodeEnd
reading tree faults = read_node (case_of tree faults) (root_of tree.domains) no_begins

-- its record
abbrev pub record_of : TreeModel → List Fault → List Event
record_of tree faults = (reading tree faults).past.events

-- the cause of an escalation: the path of the domain to blame, and the kinds
abbrev pub cause_of : List Domain → NodeEnd → Option Cause
cause_of domains (Done leak) = None
cause_of domains (Escalated cause over) = Some (record { path = path_of domains cause.node; kinds = cause.kinds })
