use Rattle.cd_app.proofs.LiftedLemmas.{lifted_passes_alike, lifted_runs_alike}
use Rattle.cd_app.proofs.laws.a_lifted_document_is_the_same_program.Goals as goal

pub returns-clause-passing : goal.returns-clause-passing
returns-clause-passing c = lifted_passes_alike

pub returns-clause-run : goal.returns-clause-run
returns-clause-run c = lifted_runs_alike
