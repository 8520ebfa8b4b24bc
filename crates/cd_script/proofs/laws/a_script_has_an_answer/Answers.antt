use Rattle.cd_script.proofs.ThereLemmas.{first_fault_there, script_there}
use Rattle.cd_script.proofs.laws.a_script_has_an_answer.Goals as goal

pub returns-clause-refusal : goal.returns-clause-refusal
returns-clause-refusal c = first_fault_there

pub returns-clause-script : goal.returns-clause-script
returns-clause-script c = script_there c.kinds_are_declared_on_the_path.ensures
