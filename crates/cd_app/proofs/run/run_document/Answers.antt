use Rattle.std.proofs.Common.{Option, subst, sym}
use Rattle.cd_tree.specs.declared.event.Cause.{Cause}
use Rattle.cd_app.specs.Running.{HasRun}
use Rattle.cd_app.proofs.CallLemmas.{counted_in_call, counted_or_not, no_memory_in_run}
use Rattle.cd_app.proofs.ToldLemmas.{ran_told}
use Rattle.cd_app.proofs.run.run_document.Goals as goal

pub returns-in-Ok : goal.returns-in-Ok
returns-in-Ok g c =
    let m = g.F.Field.model c.run_machine.new.machine in
    λ call asked read was now had has.
    ran_told call (g.K.Sink.model c.args.sink.now) (g.K.Sink.model c.report-wrote.new.sink) c.args.asked.with_record c.args.document.now
    c.args.script.now m c.in-Ok.begins c.in-Ok.cause c.status_by.result c.settled.result
    c.report-wrote.result asked read c.requires.passed.passes now c.in-Ok.ensures.ran
    (counted_in_call c.args.document.now c.args.script.now (g.E.Engine.begins c.args.engine.now) (g.E.Engine.begins c.run_machine.new.engine)
    call.engine_was call.engine_now had has c.in-Ok.ensures.counted)
    c.status_by.ensures c.settled.ensures
    (c.report-wrote.ensures c.args.script.now
    (subst (λ (cause : Option Cause). HasRun c.args.document.now c.args.script.now m c.in-Ok.begins cause) (sym c.as_ref-told.ensures.value)
    c.in-Ok.ensures.ran))

pub returns-in-Err : goal.returns-in-Err
returns-in-Err g c =
    λ call asked read was now had has.
    no_memory_in_run call (g.K.Sink.model c.args.sink.now) c.args.asked.with_record c.args.document.now c.args.script.now asked read
    c.requires.passed.passes
    (counted_or_not c.args.document.now c.args.script.now (g.E.Engine.begins c.args.engine.now) (g.E.Engine.begins c.run_machine.new.engine)
    call.engine_was call.engine_now had has c.in-Err.ensures.stopped)
