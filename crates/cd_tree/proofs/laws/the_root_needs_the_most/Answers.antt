use Rattle.cd_tree.proofs.Needs.{need_is_roots}
use Rattle.cd_tree.proofs.laws.the_root_needs_the_most.Goals as goal

pub returns : goal.returns
returns c = need_is_roots
