use Rattle.cd_script.proofs.OneAnswer.{first_fault_is_one, script_is_one}
use Rattle.cd_script.proofs.laws.a_script_has_one_answer.Goals as goal

pub returns-clause-refusal : goal.returns-clause-refusal
returns-clause-refusal c = first_fault_is_one c.no_two_domains_share_a_path.ensures

pub returns-clause-script : goal.returns-clause-script
returns-clause-script c = script_is_one c.no_two_domains_share_a_path.ensures
