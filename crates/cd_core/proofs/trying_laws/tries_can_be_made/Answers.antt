use Rattle.cd_core.proofs.FitsBefore.{tries_made}
use Rattle.cd_core.proofs.trying_laws.tries_can_be_made.Goals as goal

pub returns : goal.returns
returns c = tries_made c.laws_below.ensures
