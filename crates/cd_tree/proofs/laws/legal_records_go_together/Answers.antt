use Rattle.cd_tree.proofs.LegalParts.{legal_pieces}
use Rattle.cd_tree.proofs.laws.legal_records_go_together.Goals as goal

pub returns : goal.returns
returns c = legal_pieces
