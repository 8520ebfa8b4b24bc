use Rattle.cd_lease.specs.Seats.{IsAt}
use Rattle.cd_lease.specs.Trying.{PassesBy}
use Rattle.cd_lease.proofs.trying.try_between.Given as goal

abbrev pub invariant-loop-block : goal.invariant-loop-block
invariant-loop-block l = IsAt l.table.table_id l.seat.table_id l.table.key × PassesBy l.fn.low l.block l.initial.seat.me l.seat.me
