use Rattle.cd_cells.proofs.Following.{claimed_once}
use Rattle.cd_cells.proofs.laws.claimed_at_most_once.Goals as goal

pub returns : goal.returns
returns g c = claimed_once g.T.Shape.kind
