use Rattle.cd_foot.proofs.OneAnswer.{first_overlap_is_one}
use Rattle.cd_foot.proofs.laws.a_program_has_one_first_overlap.Goals as goal

pub returns : goal.returns
returns c = first_overlap_is_one
