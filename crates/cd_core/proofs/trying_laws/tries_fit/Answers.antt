use Rattle.cd_core.proofs.FitsTries.{tries_leave_fitting}
use Rattle.cd_core.proofs.trying_laws.tries_fit.Goals as goal

pub returns : goal.returns
returns c = tries_leave_fitting c.laws_below.ensures c.paths_go_from_parent_to_child.ensures.paths c.subtrees_are_slices.ensures.numbers c.children_fill_slices.ensures.within
