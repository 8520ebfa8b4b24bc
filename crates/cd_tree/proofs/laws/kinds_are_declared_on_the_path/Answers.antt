use Rattle.cd_tree.proofs.Declarations.{detectable_by_paths}
use Rattle.cd_tree.proofs.laws.kinds_are_declared_on_the_path.Goals as goal

pub returns : goal.returns
returns c = detectable_by_paths
