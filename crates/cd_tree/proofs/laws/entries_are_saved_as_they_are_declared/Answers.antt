use Rattle.cd_tree.proofs.SavesDeclared.{readings_save, records_save}
use Rattle.cd_tree.proofs.laws.entries_are_saved_as_they_are_declared.Goals as goal

pub returns : goal.returns
returns c = record { domains = readings_save; program = records_save }
