-- A program and its script, with what the reading asks again and again.
use Rattle.std.specs.Prelude.{◌≡◌, ◌<◌, ◌^◌, List, length}
use Rattle.cd_tree.specs.declared.domain.Domain.{Domain}
use Rattle.cd_tree.specs.KindSets.{halting}
use Rattle.cd_tree.specs.TreeModel.{IsTree}
use Rattle.cd_tree.specs.Reading as reading
use Rattle.cd_tree.specs.Record.{case_of}
use Rattle.cd_reading.specs.declared.case.Case.{Case}
use Rattle.cd_reading.specs.Strikes.{AreAllStruck}

-- the case in which the reading is read
abbrev pub given : Case → reading.Case
given case = case_of case.tree.now case.script.now

-- the program's domains
abbrev pub domains_of : Case → List Domain
domains_of case = case.tree.now.domains

-- the script is short, and the kinds that halt and the table of faults are those of the program and its script
pub record IsCase (case : Case) : Type 0 where
  pub sound : IsTree case.tree.now
  pub halts : case.halts ≡ halting case.tree.now.kinds
  pub few : length case.script.now < 2 ^ 32
  pub size : length case.domains.items ≡ length case.tree.now.domains
  pub struck : AreAllStruck case.script.now case.domains.items
