use Rattle.cd_parse.proofs.SoundWellRead.{parsed_is_well_read}
use Rattle.cd_parse.proofs.laws.a_document_is_well_read.Goals as goal

pub returns : goal.returns
returns c = parsed_is_well_read
