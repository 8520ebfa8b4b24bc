use Rattle.std.proofs.Common.{◌≡◌, Some, ap, subst}
use Rattle.std.specs.Prelude.{option_map}
use Rattle.cd_base.specs.Ends.{SourceModel, SinkModel}
use Rattle.cd_app.specs.Deeds.{deed_of, deed_in, one_document, runs}
use Rattle.cd_app.specs.Calls.{Meets, call_of}
use Rattle.cd_app.proofs.call.run_cd.Goals as goal

pub returns-in-Ok : goal.returns-in-Ok
returns-in-Ok g c = c.in-Ok.ensures.done (g.F.Field.model c.args.machine.now) (g.E.Engine.begins c.args.engine.now)

-- nothing was read or written before the run
pub returns-in-Err : goal.returns-in-Err
returns-in-Err g c =
    let deed : deed_in c.args.words.now ≡ Some (runs one_document c.in-Err.asked.with_record) = ap (option_map deed_of) c.in-Err.ensures.run in
    let was = g.F.Field.model c.args.machine.now in
    let now = g.F.Field.model c.run_source.new.machine in
    let counted = g.E.Engine.begins c.args.engine.now in
    let counts = g.E.Engine.begins c.run_source.new.engine in
    let left = g.S.Source.model c.run_source.new.source in
    let holds = g.K.Sink.model c.run_source.new.sink in
    subst (λ (source : SourceModel). Meets (call_of c.args.words.now source left was now counted counts) (g.K.Sink.model c.args.sink.now) holds c.run_source.result)
    c.in-Err.ensures.source
    (subst (λ (sink : SinkModel). Meets (call_of c.args.words.now (g.S.Source.model c.plain_cd.new.source) left was now counted counts) sink holds c.run_source.result)
    c.in-Err.ensures.sink (c.run_source.ensures c.args.words.now deed))
