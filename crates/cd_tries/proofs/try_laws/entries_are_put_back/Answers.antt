use Rattle.cd_tries.proofs.Refilled.{putting_back}
use Rattle.cd_tries.proofs.try_laws.entries_are_put_back.Goals as goal

pub returns : goal.returns
returns c = putting_back
