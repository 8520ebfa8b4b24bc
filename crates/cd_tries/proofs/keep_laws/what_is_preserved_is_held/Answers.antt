use Rattle.cd_tries.proofs.KeepsHeld.{preserved_are_held}
use Rattle.cd_tries.proofs.keep_laws.what_is_preserved_is_held.Goals as goal

pub returns : goal.returns
returns c = preserved_are_held
