-- A program with its footprints, as the questions about its domains are asked of it.
use Rattle.cd_tree.specs.TreeModel.{IsTree}
use Rattle.cd_foot.specs.Feet.{AreFeet}
use Rattle.cd_cover.specs.declared.program.Program.{Program}

-- the program is one, and these are its footprints
pub record HasFeet (program : Program) : Type 0 where
  pub sound : IsTree program.tree.now
  pub footprints : AreFeet program.tree.now.domains program.feet.now
