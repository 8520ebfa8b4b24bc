use Rattle.cd_check.proofs.OneRefusal.{first_refusal_is_one}
use Rattle.cd_check.proofs.laws.a_document_has_one_first_refusal.Goals as goal

pub returns : goal.returns
returns c =
    first_refusal_is_one c.a_program_has_one_first_overlap.ensures c.a_program_has_one_first_flaw.ensures c.a_script_has_one_answer.ensures.refusal
