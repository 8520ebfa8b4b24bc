use Rattle.std.proofs.Common.{◌≡◌, ◌++◌, drop, string_bytes}
use Rattle.cd_report.specs.Records.{events_text}
use Rattle.cd_report.proofs.record.lines_of.Given as goal

abbrev pub invariant-loop-event : goal.invariant-loop-event
invariant-loop-event l =
    string_bytes l.text ++ events_text l.kinds l.regions (drop l.event-index l.events) ≡ events_text l.kinds l.regions l.events
