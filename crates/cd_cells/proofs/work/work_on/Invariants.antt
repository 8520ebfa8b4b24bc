use Rattle.std.proofs.Common.{◌≡◌}
use Rattle.cd_cells.specs.Working.{CanGoOn, plan_of}
use Rattle.cd_cells.specs.Passes.{SameTable}
use Rattle.cd_cells.proofs.work.work_on.Given as goal

-- the table stays, and a domain is in hand that can go on
abbrev pub invariant-loop : goal.invariant-loop
invariant-loop g l =
    (plan_of l.cells ≡ l.plan) × CanGoOn g.F.Field.model g.P.Pass.model l.cells l.state × SameTable l.fn.cells l.cells
