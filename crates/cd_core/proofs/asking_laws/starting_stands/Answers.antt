use Rattle.cd_core.proofs.RootStands.{root_stands}
use Rattle.cd_core.proofs.asking_laws.starting_stands.Goals as goal

pub returns : goal.returns
returns c = root_stands c.laws_below.ensures c.accepted_scripts_keep_counts_small.ensures c.starting_fits.ensures
