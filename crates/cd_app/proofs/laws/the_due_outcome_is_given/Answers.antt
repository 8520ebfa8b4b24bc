use Rattle.cd_app.proofs.DueLemmas.{outcome_given, own_text_is_one}
use Rattle.cd_app.proofs.laws.the_due_outcome_is_given.Goals as goal

pub returns-clause-given : goal.returns-clause-given
returns-clause-given c = outcome_given

pub returns-clause-text : goal.returns-clause-text
returns-clause-text c = own_text_is_one
