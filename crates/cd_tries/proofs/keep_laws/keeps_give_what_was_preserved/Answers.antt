use Rattle.cd_tries.proofs.KeepsGiven.{preserved_are_given}
use Rattle.cd_tries.proofs.keep_laws.keeps_give_what_was_preserved.Goals as goal

pub returns : goal.returns
returns c = preserved_are_given
