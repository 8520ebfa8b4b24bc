use Rattle.cd_app.proofs.HeadlineLemmas.{runs_are_told}
use Rattle.cd_app.proofs.laws.a_run_leaves_what_the_reading_gives.Goals as goal

pub returns : goal.returns
returns c = runs_are_told
