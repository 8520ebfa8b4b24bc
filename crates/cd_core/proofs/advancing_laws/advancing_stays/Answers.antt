use Rattle.cd_core.proofs.Unmoved.{advancing_stays}
use Rattle.cd_core.proofs.advancing_laws.advancing_stays.Goals as goal

pub returns : goal.returns
returns c = advancing_stays c.laws_below.ensures c.tries_fit.ensures
