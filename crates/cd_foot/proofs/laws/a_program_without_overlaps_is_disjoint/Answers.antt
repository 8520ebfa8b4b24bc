use Rattle.cd_foot.proofs.OverlapLemmas.{disjoint_where_none}
use Rattle.cd_foot.proofs.laws.a_program_without_overlaps_is_disjoint.Goals as goal

pub returns : goal.returns
returns c = λ tree is none. disjoint_where_none tree is c.each_domain_answers_for_itself.ensures.disjoint none
