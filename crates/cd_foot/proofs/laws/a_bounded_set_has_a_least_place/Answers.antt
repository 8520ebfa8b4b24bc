use Rattle.cd_foot.proofs.BoundedLemmas.{bounded_has_least}
use Rattle.cd_foot.proofs.laws.a_bounded_set_has_a_least_place.Goals as goal

pub returns : goal.returns
returns c = bounded_has_least
