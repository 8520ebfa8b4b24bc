use Rattle.cd_cells.proofs.Following.{asks_of_parents}
use Rattle.cd_cells.proofs.laws.named_by_parents.Goals as goal

pub returns : goal.returns
returns g c = asks_of_parents g.T.Shape.kind
