use Rattle.cd_app.proofs.DueLemmas.{outcome_is_one}
use Rattle.cd_app.proofs.laws.one_outcome_is_due.Goals as goal

pub returns : goal.returns
returns c = outcome_is_one c.a_document_is_well_read.ensures c.a_document_has_one_first_refusal.ensures c.a_document_has_one_script.ensures
