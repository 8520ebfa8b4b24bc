use Rattle.cd_core.proofs.FitsEnds.{ends_completed}
use Rattle.cd_core.proofs.trying_laws.completing_fits.Goals as goal

pub returns : goal.returns
returns c = ends_completed c.laws_below.ensures
