use Rattle.cd_core.proofs.Advanced.{advancing_stands}
use Rattle.cd_core.proofs.advancing_laws.advancing_stands.Goals as goal

pub returns : goal.returns
returns c =
    advancing_stands c.laws_below.ensures c.tries_come_where_readings_do.ensures.groups c.tries_fit.ensures c.advancing_fits.ensures c.sending_stands.ensures
