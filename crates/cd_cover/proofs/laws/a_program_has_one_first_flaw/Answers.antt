use Rattle.cd_cover.proofs.OneAnswer.{first_flaw_is_one}
use Rattle.cd_cover.proofs.laws.a_program_has_one_first_flaw.Goals as goal

pub returns : goal.returns
returns c = first_flaw_is_one
