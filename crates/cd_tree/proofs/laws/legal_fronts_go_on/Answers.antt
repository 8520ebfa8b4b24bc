use Rattle.cd_tree.proofs.LegalParts as legal
use Rattle.cd_tree.proofs.laws.legal_fronts_go_on.Goals as goal

pub returns : goal.returns
returns c = record { events = legal.legal_fronts_go_on; program = legal.legal_fronts_of_records; fronts = legal.legal_fronts_are_fronts }
