use Rattle.cd_app.proofs.EndLemmas.{EndLaws, can_take_back, outcome_counted, took_back_run}
use Rattle.cd_app.proofs.program.run_machine.Goals as goal

pub take_back-requires-after_bounds : goal.take_back-requires-after_bounds
take_back-requires-after_bounds g c κs within =
    can_take_back g.F.Field.model c.args.document.now c.args.plan.now c.args.script.now (g.F.Field.model c.in_ok-part.part)
    (g.F.Field.model c.root_part.new.machine) c.in_ok-outcome.outcome c.in_ok-part.ensures.carved c.in_ok-outcome.ensures.ran
    c.in_ok-outcome.ensures.few

pub returns-clause-ran : goal.returns-clause-ran
returns-clause-ran g c =
    let laws : EndLaws = record {
      outer = c.outer_references_lead_out.ensures.these;
      entries = c.subtrees_are_seen_on_paths.ensures.entries;
      acts = c.a_domain_sees_what_it_reads_alone.ensures.acts;
      shapes = c.each_domain_is_as_its_program.ensures.shapes;
      found = c.declared_kinds_are_found_at_the_root.ensures.programs;
    } in
    took_back_run g.F.Field.model laws c.args.document.now c.args.plan.now c.args.script.now (g.F.Field.model c.in_ok-part.part)
    (g.F.Field.model c.root_part.new.machine) (g.F.Field.model c.take_back.new.machine) c.in_ok-outcome.outcome c.in_ok-ran.ran.0 c.in_ok-ran.ran.1
    c.requires.passed c.in_ok-part.ensures.carved c.in_ok-outcome.ensures.ran c.in_ok-outcome.ensures.few c.in_ok-ran.ensures

pub returns-clause-counted : goal.returns-clause-counted
returns-clause-counted g c =
    outcome_counted g.F.Field.model c.args.document.now c.args.plan.now c.args.script.now (g.F.Field.model c.in_ok-part.part)
    (g.F.Field.model c.root_part.new.machine) c.in_ok-outcome.outcome (g.E.Engine.begins c.args.engine.now)
    (g.E.Engine.begins c.run_part.new.engine) c.requires.passed c.in_ok-part.ensures.carved c.in_ok-outcome.ensures.ran
    c.in_ok-outcome.ensures.few c.in_ok-outcome.ensures.counted
