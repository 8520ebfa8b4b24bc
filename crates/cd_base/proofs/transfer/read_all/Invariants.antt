use Rattle.std.proofs.Common.{◌≡◌, ◌<◌, ◌+◌, length}
use Rattle.cd_base.specs.Ends.{Took}
use Rattle.cd_base.proofs.transfer.read_all.Given as goal

-- what was read is what the source lost, and `room` bytes may still be taken
abbrev pub invariant-loop-bytes : goal.invariant-loop-bytes
invariant-loop-bytes g l = record {
  taken : Took (g.S.Source.model l.fn.source) (g.S.Source.model l.source) l.bytes.items;
  room : length l.bytes.items + l.room ≡ l.limit + 1;
  some : 0 < l.room;
}

abbrev pub decreases-loop-bytes : goal.decreases-loop-bytes
decreases-loop-bytes g l = l.room
