use Rattle.std.proofs.Common.{◌≡◌, ◌≤◌, ◌<◌, ◌∙◌, List, [], ℕ, Err, codes, length, drop, sym, subst, arith}
use Rattle.cd_base.specs.Ends.{Grew, WriteAll}
use Rattle.cd_report.specs.Texts.{line}
use Rattle.cd_tree.specs.declared.event.Event.{Event}
use Rattle.cd_report.specs.Records.{events_text, record_text}
use Rattle.cd_report.proofs.RecordLemmas.{WroteSome, err_is, first_stops, test_end, test_within, rest_some, wrote_first, wrote_no_more, wrote_piece, wrote_piece_stop, wrote_all}
use Rattle.cd_report.proofs.record.write_record.Goals as goal

pub returns-in_err-write_all : goal.returns-in_err-write_all
returns-in_err-write_all g c =
    first_stops (g.K.Sink.model c.args.sink.now) (g.K.Sink.model c.write_all.new.sink) (line (codes "record")) (events_text c.args.kinds.now c.args.regions.now (g.F.Field.model c.args.machine.now).events)
    c.in_err-write_all.field-0.0 c.from_residual.result (err_is c.from_residual.result c.in_err-write_all.field-0.0 c.from_residual.ensures)
    (subst (λ (head : List ℕ). WriteAll {T = Unit {0}} (g.K.Sink.model c.args.sink.now) (g.K.Sink.model c.write_all.new.sink) head (Err c.in_err-write_all.field-0.0))
    c.as_bytes.ensures.value c.in_err-write_all.ensures)

pub loop-alloc-init : goal.loop-alloc-init
loop-alloc-init g c =
    wrote_first (g.K.Sink.model c.args.sink.now) (g.K.Sink.model c.write_all.new.sink) (line (codes "record")) (events_text c.args.kinds.now c.args.regions.now (g.F.Field.model c.args.machine.now).events)
    (subst (Grew (g.K.Sink.model c.args.sink.now) (g.K.Sink.model c.write_all.new.sink)) c.as_bytes.ensures.value c.in_ok-write_all.ensures)

pub returns-in_default : goal.returns-in_default
returns-in_default g c =
    let events : List Event = (g.F.Field.model c.args.machine.now).events in
    wrote_no_more (g.K.Sink.model c.args.sink.now) (g.K.Sink.model c.loop-alloc.sink) (events_text c.args.kinds.now c.args.regions.now (drop c.loop-alloc.from events))
    (record_text c.args.kinds.now c.args.regions.now events) c.loop-alloc.invariant
    (rest_some c.args.kinds.now c.args.regions.now events c.loop-alloc.from
    (test_within events c.loop-alloc.from c.event.result c.event.ensures c.loop-alloc-test.ensures))

pub returns-in_err-write_all-2 : goal.returns-in_err-write_all-2
returns-in_err-write_all-2 g c =
    let events : List Event = (g.F.Field.model c.args.machine.now).events in
    let whole : List ℕ = record_text c.args.kinds.now c.args.regions.now events in
    let within : c.loop-alloc.from < length events = test_within events c.loop-alloc.from c.event.result c.event.ensures c.loop-alloc-test.ensures in
    let onward : c.loop-alloc.from ≤ c.saturating_add-to.result = omega (arith, c.saturating_add-to.ensures, c.requires.short, within) in
    subst (WriteAll (g.K.Sink.model c.args.sink.now) (g.K.Sink.model c.write_all-in-loop-alloc.new.sink) whole)
    (sym (err_is c.from_residual-in_err-write_all-2.result c.in_err-write_all-2.field-0.0 c.from_residual-in_err-write_all-2.ensures))
    (wrote_piece_stop c.args.kinds.now c.args.regions.now events c.loop-alloc.from c.saturating_add-to.result
    (g.K.Sink.model c.args.sink.now) (g.K.Sink.model c.loop-alloc.sink) (g.K.Sink.model c.write_all-in-loop-alloc.new.sink) whole
    c.in_err-write_all-2.field-0.0 onward c.loop-alloc.invariant
    (subst (λ (bytes : List ℕ). WriteAll {T = Unit {0}} (g.K.Sink.model c.loop-alloc.sink) (g.K.Sink.model c.write_all-in-loop-alloc.new.sink) bytes (Err c.in_err-write_all-2.field-0.0))
    (c.as_bytes-in-loop-alloc.ensures.value ∙ c.in-Ok.ensures) c.in_err-write_all-2.ensures))

pub loop-alloc-smaller : goal.loop-alloc-smaller
loop-alloc-smaller g c =
    omega (
      arith,
      c.saturating_add-to.ensures,
      c.requires.short,
      test_within (g.F.Field.model c.args.machine.now).events c.loop-alloc.from c.event.result c.event.ensures c.loop-alloc-test.ensures,
    )

pub loop-alloc-preserved : goal.loop-alloc-preserved
loop-alloc-preserved g c =
    let events : List Event = (g.F.Field.model c.args.machine.now).events in
    let within : c.loop-alloc.from < length events = test_within events c.loop-alloc.from c.event.result c.event.ensures c.loop-alloc-test.ensures in
    let onward : c.loop-alloc.from ≤ c.saturating_add-to.result = omega (arith, c.saturating_add-to.ensures, c.requires.short, within) in
    wrote_piece c.args.kinds.now c.args.regions.now events c.loop-alloc.from c.saturating_add-to.result
    (g.K.Sink.model c.args.sink.now) (g.K.Sink.model c.loop-alloc.sink) (g.K.Sink.model c.write_all-in-loop-alloc.new.sink)
    (record_text c.args.kinds.now c.args.regions.now events) onward c.loop-alloc.invariant
    (subst (Grew (g.K.Sink.model c.loop-alloc.sink) (g.K.Sink.model c.write_all-in-loop-alloc.new.sink))
    (c.as_bytes-in-loop-alloc.ensures.value ∙ c.in-Ok.ensures) c.in_ok-write_all-2.ensures)

pub returns : goal.returns
returns g c =
    let events : List Event = (g.F.Field.model c.args.machine.now).events in
    let whole : List ℕ = record_text c.args.kinds.now c.args.regions.now events in
    let none : drop c.loop-alloc.from events ≡ [] = test_end events c.loop-alloc.from c.event.result c.event.ensures c.loop-alloc-test.ensures in
    wrote_all (g.K.Sink.model c.args.sink.now) (g.K.Sink.model c.loop-alloc.sink) whole
    (subst (λ (rest : List Event). WroteSome (g.K.Sink.model c.args.sink.now) (g.K.Sink.model c.loop-alloc.sink) (events_text c.args.kinds.now c.args.regions.now rest) whole)
    none c.loop-alloc.invariant)
