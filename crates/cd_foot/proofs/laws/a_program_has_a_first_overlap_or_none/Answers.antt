use Rattle.cd_foot.proofs.ThereLemmas.{first_overlap_there}
use Rattle.cd_foot.proofs.laws.a_program_has_a_first_overlap_or_none.Goals as goal

pub returns : goal.returns
returns c = first_overlap_there c.a_bounded_set_has_a_least_place.ensures c.what_a_domain_reaches_is_bounded.ensures
