use Rattle.cd_cells.proofs.Following.{last_has_all}
use Rattle.cd_cells.proofs.laws.last_arriver_has_all_members.Goals as goal

pub returns : goal.returns
returns g c = last_has_all g.T.Shape.kind
