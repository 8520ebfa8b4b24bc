use Rattle.std.proofs.Common.{string_bytes}
use Rattle.cd_report.proofs.RecordLemmas.{line_behind}
use Rattle.cd_report.proofs.events.add_event.Goals as goal

pub returns-in_ok-push_str-in-Fell : goal.returns-in_ok-push_str-in-Fell
returns-in_ok-push_str-in-Fell c =
    line_behind c.args.kinds.now c.args.regions.now c.args.event _ (string_bytes c.args.text.now) (string_bytes c.push_str.new.self)
    c.deref.result.now (string_bytes c.in_ok-fell-in-Fell.field-0) c.in_ok-push_str-in-Fell.ensures.bytes c.deref.ensures
    (c.in_ok-fell-in-Fell.ensures c.args.kinds.now) c.in-Fell.is

pub returns-in_ok-push_str-in-Lapsed : goal.returns-in_ok-push_str-in-Lapsed
returns-in_ok-push_str-in-Lapsed c =
    line_behind c.args.kinds.now c.args.regions.now c.args.event _ (string_bytes c.args.text.now)
    (string_bytes c.push_str-in-Lapsed.new.self) c.deref-in-Lapsed.result.now (string_bytes c.in_ok-lapsed-in-Lapsed.field-0)
    c.in_ok-push_str-in-Lapsed.ensures.bytes c.deref-in-Lapsed.ensures
    (c.in_ok-lapsed-in-Lapsed.ensures c.args.kinds.now c.args.regions.now) c.in-Lapsed.is
