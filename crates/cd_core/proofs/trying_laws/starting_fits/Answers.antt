use Rattle.cd_core.proofs.FitsStart.{start_fits}
use Rattle.cd_core.proofs.trying_laws.starting_fits.Goals as goal

pub returns : goal.returns
returns c = start_fits c.laws_below.ensures
