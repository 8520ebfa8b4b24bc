use Rattle.cd_core.proofs.Roots.{ended_roots_ran, started_roots_answer}
use Rattle.cd_core.proofs.returning_laws.roots_answer_and_have_run.Goals as goal

pub returns-clause-start : goal.returns-clause-start
returns-clause-start c = started_roots_answer c.laws_below.ensures c.starting_stands.ensures

pub returns-clause-end : goal.returns-clause-end
returns-clause-end c =
    ended_roots_ran c.laws_below.ensures c.a_domain_sees_what_it_reads_alone.ensures.acts c.each_domain_is_as_its_program.ensures.shapes
