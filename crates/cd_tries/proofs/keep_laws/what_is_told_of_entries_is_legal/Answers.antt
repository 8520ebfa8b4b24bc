use Rattle.cd_tries.proofs.KeepsLegal.{preserved_is_legal}
use Rattle.cd_tries.proofs.keep_laws.what_is_told_of_entries_is_legal.Goals as goal

pub returns : goal.returns
returns c = preserved_is_legal
