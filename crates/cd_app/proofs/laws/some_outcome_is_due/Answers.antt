use Rattle.cd_app.proofs.ThereLemmas.{outcome_is_there}
use Rattle.cd_app.proofs.laws.some_outcome_is_due.Goals as goal

pub returns : goal.returns
returns c = outcome_is_there c.a_document_is_well_read.ensures c.a_document_is_refused_or_passes.ensures
