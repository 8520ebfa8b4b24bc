use Rattle.cd_tree.proofs.ArrivalsAll as all
use Rattle.cd_tree.proofs.laws.arrivals_are_fronts.Goals as goal

pub returns : goal.returns
returns c = record { ends = all.fronts_end_there; arrivals = all.arrivals_are_fronts }
