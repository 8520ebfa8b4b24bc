use Rattle.cd_tries.proofs.Lapses.{lapses_are_answered}
use Rattle.cd_tries.proofs.keep_laws.lapses_are_answered.Goals as goal

pub returns : goal.returns
returns c = lapses_are_answered
