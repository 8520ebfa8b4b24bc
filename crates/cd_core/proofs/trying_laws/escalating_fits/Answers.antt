use Rattle.cd_core.proofs.FitsEnds.{ends_escalated}
use Rattle.cd_core.proofs.trying_laws.escalating_fits.Goals as goal

pub returns : goal.returns
returns c = ends_escalated c.laws_below.ensures
