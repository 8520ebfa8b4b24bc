use Rattle.cd_tree.proofs.FrontsStand.{fronts_stand}
use Rattle.cd_tree.proofs.laws.fronts_stand_where_they_are.Goals as goal

pub returns : goal.returns
returns c = fronts_stand
