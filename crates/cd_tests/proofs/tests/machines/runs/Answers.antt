use Rattle.std.proofs.Common.{false, sym, ◌∙◌}
use Rattle.cd_app.specs.Calls.{Call, call_of}
use Rattle.cd_tests.proofs.LookLemmas.{four_present}
use Rattle.cd_tests.proofs.tests.machines.runs.Goals as goal

pub returns : goal.returns
returns g c =
    let call : Call = call_of c.args.words.now (g.S.Source.model c.args.source.now) (g.S.Source.model c.run_cd-status.new.source)
    (g.F.Field.model c.args.machine.now) (g.F.Field.model c.run_cd-status.new.machine) (g.E.Engine.begins c.args.engine.now)
    (g.E.Engine.begins c.run_cd-status.new.engine) in
    λ ran. four_present c.words_stay.ensures c.a_run_leaves_what_the_reading_gives.ensures call (g.K.Sink.model c.args.sink.now) (g.K.Sink.model c.run_cd-status.new.sink) false
    c.run_cd-status.result c.requires.run (sym c.comes_of_a_run.ensures ∙ ran) c.run_cd-status.ensures c.requires.text
