use Rattle.cd_check.proofs.ThereLemmas.{passing_not_refused}
use Rattle.cd_check.proofs.laws.a_document_that_passes_is_not_refused.Goals as goal

pub returns : goal.returns
returns c = passing_not_refused c.a_document_has_one_first_refusal.ensures
