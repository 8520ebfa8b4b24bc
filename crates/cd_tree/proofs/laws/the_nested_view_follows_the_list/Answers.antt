use Rattle.cd_tree.proofs.View.{nested_view_follows}
use Rattle.cd_tree.proofs.laws.the_nested_view_follows_the_list.Goals as goal

pub returns : goal.returns
returns c = nested_view_follows
