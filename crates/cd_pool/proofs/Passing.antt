-- Passes at one table, in a list and one by one.
use Rattle.std.proofs.Common.{[], sym, ◌∙◌}
use Rattle.cd_field.specs.FieldModel.{FieldModel}
use Rattle.cd_keep.specs.PassModel.{PassModel}
use Rattle.cd_core.specs.declared.state.NodeState.{NodeState}
use Rattle.cd_cells.specs.declared.cell_pass.CellPass.{CellPass}
use Rattle.cd_cells.specs.declared.start.Start.{Start}
use Rattle.cd_cells.specs.Passes.{SameTable}
use Rattle.cd_cells.specs.Working.{Works}
use Rattle.cd_pool.specs.Working.{IsFree}

module _ {K T : Type 0} (one other third : CellPass K T) where
  pub same_on : SameTable one other → SameTable other third → SameTable one third
  same_on a b = record { key = b.key ∙ a.key; table = b.table ∙ a.table }

  pub same_from : SameTable one other → SameTable one third → SameTable other third
  same_from a b = record { key = b.key ∙ sym a.key; table = b.table ∙ sym a.table }
