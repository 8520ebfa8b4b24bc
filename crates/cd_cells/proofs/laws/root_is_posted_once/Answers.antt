use Rattle.cd_cells.proofs.Following.{root_once}
use Rattle.cd_cells.proofs.laws.root_is_posted_once.Goals as goal

pub returns : goal.returns
returns g c = root_once g.T.Shape.kind
