use Rattle.cd_core.proofs.GoingOn.{advancing_goes_on}
use Rattle.cd_core.proofs.advancing_laws.advancing_goes_on.Goals as goal

pub returns : goal.returns
returns c = advancing_goes_on c.laws_below.ensures
