use Rattle.cd_tries.proofs.Staying.{points_keep}
use Rattle.cd_tries.proofs.try_laws.points_stay_within_entries.Goals as goal

pub returns : goal.returns
returns c = points_keep
