use Rattle.cd_cells.proofs.Following.{one_hand}
use Rattle.cd_cells.proofs.laws.away_is_in_one_hand.Goals as goal

pub returns : goal.returns
returns g c = one_hand g.T.Shape.kind
