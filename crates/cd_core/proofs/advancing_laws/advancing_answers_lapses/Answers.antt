use Rattle.cd_core.proofs.Answering.{advancing_answers_lapses}
use Rattle.cd_core.proofs.advancing_laws.advancing_answers_lapses.Goals as goal

pub returns : goal.returns
returns c = advancing_answers_lapses
