use Rattle.cd_tries.proofs.Staying.{trying_again_keeps}
use Rattle.cd_tries.proofs.try_laws.a_later_try_makes_entries_present.Goals as goal

pub returns : goal.returns
returns c = trying_again_keeps
