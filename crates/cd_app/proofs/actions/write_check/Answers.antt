use Rattle.cd_app.proofs.WriteLemmas.{check_cut, check_written}
use Rattle.cd_app.proofs.actions.write_check.Goals as goal

pub returns-in-Err : goal.returns-in-Err
returns-in-Err g c =
    check_cut (Unit {0}) (g.K.Sink.model c.args.sink.now) (g.K.Sink.model c.write_accepted.new.sink) c.args.document.now c.args.need
    c.in-Err.stop c.requires c.in-Err.ensures

pub returns-in-Ok : goal.returns-in-Ok
returns-in-Ok g c =
    check_written (g.K.Sink.model c.args.sink.now) (g.K.Sink.model c.write_accepted.new.sink) (g.K.Sink.model c.print_document.new.sink)
    c.args.document.now c.args.need c.print_document.result c.requires c.in-Ok.ensures c.print_document.ensures
