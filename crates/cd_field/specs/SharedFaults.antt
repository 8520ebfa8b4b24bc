-- The script of a machine that shares its faults with others, or has none.
use Rattle.std.specs.Prelude.{List, [], Option, None, Some}
use Rattle.std.specs.Arc.{arc_value}
use Rattle.std.specs.declared.sync.Arc.{Arc}
use Rattle.std.specs.declared.alloc.Global.{Global}
use Rattle.cd_tree.specs.declared.document.Fault.{Fault}
use Rattle.cd_field.specs.declared.faults.Faults.{Faults}

abbrev pub script_of : Option (Arc Faults Global) → List Fault
script_of None = []
script_of (Some shared) = (arc_value shared).script.items
