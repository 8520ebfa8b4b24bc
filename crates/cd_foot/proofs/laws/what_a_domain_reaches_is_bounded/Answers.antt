use Rattle.cd_foot.proofs.ThereLemmas.{reach_bounded}
use Rattle.cd_foot.proofs.laws.what_a_domain_reaches_is_bounded.Goals as goal

pub returns : goal.returns
returns c = reach_bounded
