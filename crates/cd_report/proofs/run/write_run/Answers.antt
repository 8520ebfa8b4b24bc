use Rattle.std.proofs.Common.{◌≡◌, ◌≤◌, ℕ, List, Err, [], ◌∙◌, ap, length, string_bytes, sym, subst, if◌then◌else◌}
use Rattle.std.specs.Option.{option_copied}
use Rattle.cd_base.specs.Ends.{Grew, WriteAll}
use Rattle.cd_tree.specs.declared.event.Event.{Event}
use Rattle.cd_tree.specs.declared.kinds.KindName.{KindName}
use Rattle.cd_tree.specs.declared.document.Region.{Region}
use Rattle.cd_report.specs.Texts.{report_with, report_text}
use Rattle.cd_report.specs.Records.{record_text}
use Rattle.cd_report.proofs.RecordLemmas.{err_is, first_stops, wrote_run}
use Rattle.cd_report.proofs.run.write_run.Goals as goal

pub returns-in_err-write_all : goal.returns-in_err-write_all
returns-in_err-write_all g c =
    let events : List Event = (g.F.Field.model c.args.machine.now).events in
    let begins : List ℕ = c.args.begins.now in
    let made : string_bytes c.in-Ok-report.text ≡ report_text c.args.tree.now c.args.regions.now (g.F.Field.model c.args.machine.now).words begins (option_copied c.args.cause) =
    c.in-Ok-report.ensures ∙ ap (λ (lines : List ℕ). report_with lines c.args.tree.now begins (option_copied c.args.cause)) (c.as_str.ensures.value ∙ c.in-Ok.ensures) in
    first_stops (g.K.Sink.model c.args.sink.now) (g.K.Sink.model c.write_all.new.sink) (report_text c.args.tree.now c.args.regions.now (g.F.Field.model c.args.machine.now).words begins (option_copied c.args.cause))
    (if c.args.with_record then record_text c.args.tree.now.kinds c.args.regions.now events else [])
    c.in_err-write_all.field-0.0 c.from_residual.result (err_is c.from_residual.result c.in_err-write_all.field-0.0 c.from_residual.ensures)
    (subst (λ (bytes : List ℕ). WriteAll {T = Unit {0}} (g.K.Sink.model c.args.sink.now) (g.K.Sink.model c.write_all.new.sink) bytes (Err c.in_err-write_all.field-0.0))
    (c.as_bytes.ensures.value ∙ made) c.in_err-write_all.ensures)

pub write_record-requires-clause-kinds : goal.write_record-requires-clause-kinds
write_record-requires-clause-kinds g c κs within = subst (λ (kinds : List KindName). length kinds ≤ 16) (sym c.kinds.ensures) c.count-count.ensures.sound.few_kinds

pub returns : goal.returns
returns g c =
    let events : List Event = (g.F.Field.model c.args.machine.now).events in
    let begins : List ℕ = c.args.begins.now in
    let made : string_bytes c.in-Ok-report.text ≡ report_text c.args.tree.now c.args.regions.now (g.F.Field.model c.args.machine.now).words begins (option_copied c.args.cause) =
    c.in-Ok-report.ensures ∙ ap (λ (lines : List ℕ). report_with lines c.args.tree.now begins (option_copied c.args.cause)) (c.as_str.ensures.value ∙ c.in-Ok.ensures) in
    let told : record_text c.kinds.result.now c.items.result.now events ≡ record_text c.args.tree.now.kinds c.args.regions.now events =
    ap (λ (kinds : List KindName). record_text kinds c.items.result.now events) c.kinds.ensures
    ∙ ap (λ (regions : List Region). record_text c.args.tree.now.kinds regions events) c.items.ensures.value in
    wrote_run c.args.with_record (g.K.Sink.model c.args.sink.now) (g.K.Sink.model c.write_all.new.sink) (g.K.Sink.model c.write_record.new.sink)
    (report_text c.args.tree.now c.args.regions.now (g.F.Field.model c.args.machine.now).words begins (option_copied c.args.cause))
    (record_text c.args.tree.now.kinds c.args.regions.now events) c.write_record.result c.if-not-with_record.false
    (subst (Grew (g.K.Sink.model c.args.sink.now) (g.K.Sink.model c.write_all.new.sink)) (c.as_bytes.ensures.value ∙ made) c.in_ok-write_all.ensures)
    (subst (λ (bytes : List ℕ). WriteAll (g.K.Sink.model c.write_all.new.sink) (g.K.Sink.model c.write_record.new.sink) bytes c.write_record.result) told c.write_record.ensures)
