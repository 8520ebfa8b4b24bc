use Rattle.std.proofs.Common.{◌-◌, drop, length}
use Rattle.cd_report.specs.Records.{events_text, record_text}
use Rattle.cd_report.proofs.RecordLemmas.{WroteSome}
use Rattle.cd_report.proofs.record.write_record.Given as goal

abbrev pub invariant-loop-alloc : goal.invariant-loop-alloc
invariant-loop-alloc g l =
    WroteSome (g.K.Sink.model l.fn.sink) (g.K.Sink.model l.sink)
    (events_text l.kinds l.regions (drop l.from (g.F.Field.model l.machine).events)) (record_text l.kinds l.regions (g.F.Field.model l.machine).events)

abbrev pub decreases-loop-alloc : goal.decreases-loop-alloc
decreases-loop-alloc g l = length (g.F.Field.model l.machine).events - l.from
