use Rattle.cd_core.proofs.Unmoved.{advancing_stays_inside}
use Rattle.cd_core.proofs.advancing_laws.advancing_stays_inside.Goals as goal

pub returns : goal.returns
returns c = advancing_stays_inside c.laws_below.ensures c.tries_fit.ensures
