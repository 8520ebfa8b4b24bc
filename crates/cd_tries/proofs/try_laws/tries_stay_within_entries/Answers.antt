use Rattle.cd_tries.proofs.Staying.{tries_keep}
use Rattle.cd_tries.proofs.try_laws.tries_stay_within_entries.Goals as goal

pub returns : goal.returns
returns c = tries_keep
