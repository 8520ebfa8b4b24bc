use Rattle.std.proofs.Common.{refl}
use Rattle.cd_app.specs.Deeds.{one_document, runs}
use Rattle.cd_app.specs.Calls.{call_of}
use Rattle.cd_app.proofs.CallLemmas.{takes_by}
use Rattle.cd_app.proofs.run.run_source.Goals as goal

pub judge-requires-clause-well : goal.judge-requires-clause-well
judge-requires-clause-well g c κs within = c.a_document_is_well_read.ensures c.in-Ok.ensures.bytes c.in-Ok.document c.in-Ok.ensures.read

pub returns-in-Ok : goal.returns-in-Ok
returns-in-Ok g c =
    λ words asked.
    c.judge.ensures
    (call_of words (g.S.Source.model c.args.source.now) (g.S.Source.model c.receive.new.source) (g.F.Field.model c.args.machine.now)
    (g.F.Field.model c.judge.new.machine) (g.E.Engine.begins c.args.engine.now) (g.E.Engine.begins c.judge.new.engine))
    asked (takes_by words (runs one_document c.args.asked.with_record) one_document asked refl) c.in-Ok.ensures refl refl refl refl

pub returns-in-Err : goal.returns-in-Err
returns-in-Err g c =
    λ words asked.
    c.tell.ensures
    (call_of words (g.S.Source.model c.args.source.now) (g.S.Source.model c.receive.new.source) (g.F.Field.model c.args.machine.now)
    (g.F.Field.model c.args.machine.now) (g.E.Engine.begins c.args.engine.now) (g.E.Engine.begins c.args.engine.now))
    (takes_by words (runs one_document c.args.asked.with_record) one_document asked refl) (refl, refl) c.in-Err.ensures
