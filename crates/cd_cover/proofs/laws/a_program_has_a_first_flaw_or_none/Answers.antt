use Rattle.cd_cover.proofs.ThereLemmas.{first_flaw_there}
use Rattle.cd_cover.proofs.laws.a_program_has_a_first_flaw_or_none.Goals as goal

pub returns : goal.returns
returns c = first_flaw_there
