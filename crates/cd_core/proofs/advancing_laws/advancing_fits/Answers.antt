use Rattle.cd_core.proofs.Advanced.{advancing_fits}
use Rattle.cd_core.proofs.advancing_laws.advancing_fits.Goals as goal

pub returns : goal.returns
returns c =
    advancing_fits c.laws_below.ensures.follows c.tries_fit.ensures c.sending_fits.ensures c.completing_fits.ensures c.escalating_fits.ensures
