use Rattle.cd_app.proofs.CountLemmas.{counts_do_not_fall}
use Rattle.cd_app.proofs.laws.counts_of_faults_do_not_fall.Goals as goal

pub returns : goal.returns
returns c = counts_do_not_fall
