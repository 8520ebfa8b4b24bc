use Rattle.cd_core.proofs.Arriving.{tries_end}
use Rattle.cd_core.proofs.Standing.{tries_come}
use Rattle.cd_core.proofs.advancing_laws.tries_come_where_readings_do.Goals as goal

pub returns-clause-groups : goal.returns-clause-groups
returns-clause-groups c = tries_come c.laws_below.ensures

pub returns-clause-ends : goal.returns-clause-ends
returns-clause-ends c = tries_end c.laws_below.ensures
