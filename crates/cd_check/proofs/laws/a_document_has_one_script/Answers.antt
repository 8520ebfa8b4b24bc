use Rattle.cd_check.proofs.OneRefusal.{passing_script_is_one}
use Rattle.cd_check.proofs.laws.a_document_has_one_script.Goals as goal

pub returns : goal.returns
returns c = passing_script_is_one c.a_script_has_one_answer.ensures.script
