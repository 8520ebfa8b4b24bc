use Rattle.std.proofs.Common.{refl}
use Rattle.cd_command.specs.declared.command.Command.TheVariants.{Check, Read, Lift, Make}
use Rattle.cd_make.specs.Making.{make_text}
use Rattle.cd_app.specs.Calls.{call_of}
use Rattle.cd_app.proofs.CallLemmas.{asks_for_it, asks_for_nothing}
use Rattle.cd_app.proofs.ToldLemmas.{made_told, usage_told}
use Rattle.cd_app.proofs.call.plain_cd.Goals as goal

pub returns-in-Ok-Some-Check-clause-done : goal.returns-in-Ok-Some-Check-clause-done
returns-in-Ok-Some-Check-clause-done g c =
    let found = c.in-Ok-Some-Check in
    λ m count. c.act.ensures c.args.words.now m count
    (asks_for_it c.args.words.now found.field-0 found.field-0-0 Check found.ensures.exact found.field-0-is found.field-0-0-is)

pub returns-in-Ok-Some-Read-clause-done : goal.returns-in-Ok-Some-Read-clause-done
returns-in-Ok-Some-Read-clause-done g c =
    let found = c.in-Ok-Some-Read in
    λ m count. c.act-in-Ok-Some-Read.ensures c.args.words.now m count
    (asks_for_it c.args.words.now found.field-0 found.field-0-0 Read found.ensures.exact found.field-0-is found.field-0-0-is)

pub returns-in-Ok-Some-Lift-clause-done : goal.returns-in-Ok-Some-Lift-clause-done
returns-in-Ok-Some-Lift-clause-done g c =
    let found = c.in-Ok-Some-Lift in
    λ m count. c.act-in-Ok-Some-Lift.ensures c.args.words.now m count
    (asks_for_it c.args.words.now found.field-0 found.field-0-0 Lift found.ensures.exact found.field-0-is found.field-0-0-is)

pub returns-in-Ok-Some-Make-clause-done : goal.returns-in-Ok-Some-Make-clause-done
returns-in-Ok-Some-Make-clause-done g c =
    let found = c.in-Ok-Some-Make in
    λ m count.
    made_told (call_of c.args.words.now (g.S.Source.model c.args.source.now) (g.S.Source.model c.args.source.now) m m count count)
    (g.K.Sink.model c.args.sink.now) (g.K.Sink.model c.write_make.new.sink) (make_text found.size) c.settled.result c.write_make.result
    (asks_for_it c.args.words.now found.field-0 found.field-0-0 (Make found.size) found.ensures.exact found.field-0-is found.field-0-0-is)
    refl (refl, refl) c.settled.ensures c.write_make.ensures

pub returns-in-Ok-None-clause-done : goal.returns-in-Ok-None-clause-done
returns-in-Ok-None-clause-done g c =
    let found = c.in-Ok-None in
    λ m count.
    usage_told (call_of c.args.words.now (g.S.Source.model c.args.source.now) (g.S.Source.model c.args.source.now) m m count count)
    (g.K.Sink.model c.args.sink.now) (g.K.Sink.model c.write_usage.new.sink) c.settled-in-Ok-None.result c.write_usage.result
    (asks_for_nothing c.args.words.now found.field-0 found.ensures.exact found.field-0-is) refl (refl, refl) c.settled-in-Ok-None.ensures c.write_usage.ensures
