use Rattle.std.proofs.Common.{◌≤◌, ◌-◌, length, take}
use Rattle.cd_base.specs.Ends.{Grew}
use Rattle.cd_base.proofs.transfer.write_all.Given as goal

abbrev pub invariant-loop-written : goal.invariant-loop-written
invariant-loop-written g l = record {
  front : Grew (g.K.Sink.model l.fn.sink) (g.K.Sink.model l.sink) (take l.written l.bytes);
  within : l.written ≤ length l.bytes;
}

abbrev pub decreases-loop-written : goal.decreases-loop-written
decreases-loop-written g l = length l.bytes - l.written
