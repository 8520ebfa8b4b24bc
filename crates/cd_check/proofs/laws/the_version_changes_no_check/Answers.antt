use Rattle.cd_check.proofs.Versions.{passes_in_version}
use Rattle.cd_check.proofs.laws.the_version_changes_no_check.Goals as goal

pub returns-clause-passing : goal.returns-clause-passing
returns-clause-passing c = passes_in_version
