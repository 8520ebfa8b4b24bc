use Rattle.std.proofs.Common.{◌≡◌}
use Rattle.cd_cells.specs.Working.{plan_of}
use Rattle.cd_pool.specs.Working.{IsFree}
use Rattle.cd_pool.proofs.worker.work.Given as goal

-- the table stays, and nothing is in hand
abbrev pub invariant-loop : goal.invariant-loop
invariant-loop g l = (plan_of l.cells ≡ l.plan) × IsFree g.F.Field.model g.P.Pass.model l.fn.job.cells l.cells
