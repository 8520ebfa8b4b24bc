use Rattle.cd_cells.proofs.Following.{counts_agree}
use Rattle.cd_cells.proofs.laws.counts_agree.Goals as goal

pub returns : goal.returns
returns g c = counts_agree g.T.Shape.kind
