use Rattle.cd_cells.specs.Views.{name_of}
use Rattle.cd_cells.proofs.opening.learn.Given as goal

abbrev pub ghosts-learn_as : goal.ghosts-learn_as
ghosts-learn_as g a = record { name = name_of a.table.now.table_id }
