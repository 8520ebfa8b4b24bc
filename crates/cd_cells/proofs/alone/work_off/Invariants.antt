use Rattle.std.proofs.Common.{◌≡◌, []}
use Rattle.cd_cells.specs.Working.{Works, plan_of}
use Rattle.cd_cells.specs.Passes.{SameTable}
use Rattle.cd_cells.proofs.alone.work_off.Given as goal

-- the table stays, and nothing is in hand
abbrev pub invariant-loop : goal.invariant-loop
invariant-loop g l = (plan_of l.cells ≡ l.plan) × Works g.F.Field.model g.P.Pass.model l.cells [] [] × SameTable l.fn.cells l.cells
