use Rattle.cd_lease.proofs.Held.{held_stays}
use Rattle.cd_lease.proofs.laws.held_words_stay.Goals as goal

pub returns : goal.returns
returns c = held_stays
