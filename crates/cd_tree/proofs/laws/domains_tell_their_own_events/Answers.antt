use Rattle.cd_tree.proofs.TellOwn.{domains_tell_their_own}
use Rattle.cd_tree.proofs.laws.domains_tell_their_own_events.Goals as goal

pub returns : goal.returns
returns c = domains_tell_their_own
