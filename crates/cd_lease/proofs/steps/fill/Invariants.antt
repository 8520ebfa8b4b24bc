use Rattle.std.proofs.Common.{◌≡◌, take}
use Rattle.cd_lease.specs.Seats.{IsAt}
use Rattle.cd_lease.specs.Steps.{growing, piece_of}
use Rattle.cd_lease.proofs.steps.fill.Given as goal

abbrev pub invariant-loop-i : goal.invariant-loop-i
invariant-loop-i l = IsAt l.table.table_id l.seat.table_id l.table.key × (l.seat.me ≡ (growing l.initial.seat.me.0 (piece_of l.id (take l.i l.words)), l.initial.seat.me.1))
