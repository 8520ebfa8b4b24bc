use Rattle.std.proofs.Common.{◌↔◌, drop}
use Rattle.cd_tree.specs.TreeModel.{EachFits}
use Rattle.cd_tree.proofs.check.all_fit.Given as goal

abbrev pub invariant-loop-at : goal.invariant-loop-at
invariant-loop-at l = EachFits l.kinds l.domains l.at (drop l.at l.domains) ↔ EachFits l.kinds l.domains 0 l.domains
