use Rattle.cd_pool.specs.Working.{AreFree, IsFree}
use Rattle.cd_pool.proofs.run.jobs_for.Given as goal

-- nothing is in hand, nor with the jobs that are made
abbrev pub invariant-loop-deque : goal.invariant-loop-deque
invariant-loop-deque g l =
    IsFree g.F.Field.model g.P.Pass.model l.fn.cells l.cells
    × AreFree g.F.Field.model g.P.Pass.model l.fn.cells l.jobs.items
