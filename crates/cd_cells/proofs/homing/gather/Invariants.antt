use Rattle.std.proofs.Common.{◌≡◌, ◌+◌, ◌≤◌, ℕ, drop, length, vec_capacity}
use Rattle.cd_cells.specs.declared.view.View.{View}
use Rattle.cd_cells.specs.Gathering.{Gathers}
use Rattle.cd_cells.specs.States.{numbers_of}
use Rattle.cd_cells.proofs.homing.gather.Given as goal

abbrev pub invariant-loop-member : goal.invariant-loop-member
invariant-loop-member g l =
    (vec_capacity l.room ≡ vec_capacity l.initial.room)
    × (length l.room.items + length (drop l.member-index l.siblings) ≤ vec_capacity l.room)
    × ((old : View g.row.K.Denot) (node : ℕ)
    → Gathers (g.T.Shape.kind l.table.key) l.table.key l.table.table_id l.initial.seat.table_id old node l.initial.seat.me (numbers_of l.siblings) l.initial.room.items
    → Gathers (g.T.Shape.kind l.table.key) l.table.key l.table.table_id l.seat.table_id old node l.seat.me (numbers_of (drop l.member-index l.siblings)) l.room.items)
