use Rattle.std.proofs.Common.{◌≡◌, []}
use Rattle.cd_cells.specs.Working.{Works}
use Rattle.cd_cells.specs.Passes.{SameTable}
use Rattle.cd_cells.proofs.whole.take_root.Given as goal

-- the table stays, and nothing is in hand
abbrev pub invariant-loop : goal.invariant-loop
invariant-loop g l = Works g.F.Field.model g.P.Pass.model l.cells [] [] × SameTable l.fn.cells l.cells
