-- What a run of a program comes to, as its one-thread reading has it.
use Rattle.std.specs.Prelude.{ℕ, List, Option, length, map}
use Rattle.cd_tree.specs.declared.document.Fault.{Fault}
use Rattle.cd_tree.specs.declared.event.Cause.{Cause}
use Rattle.cd_tree.specs.Domains.{numbers_from}
use Rattle.cd_tree.specs.TreeModel.{TreeModel}
use Rattle.cd_tree.specs.Record.{reading, cause_of}

-- how often each domain begins, in preorder
abbrev pub begins_in : TreeModel → List Fault → List ℕ
begins_in tree faults = map (reading tree faults).counts (numbers_from 0 (length tree.domains))

-- why the root escalates, where it does
abbrev pub cause_in : TreeModel → List Fault → Option Cause
cause_in tree faults = cause_of tree.domains (reading tree faults).answer
