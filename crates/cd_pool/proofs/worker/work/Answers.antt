use Rattle.std.proofs.Common.{[], ap, ◌∙◌}
use Rattle.cd_pool.proofs.Passing.{same_on}
use Rattle.cd_pool.proofs.worker.work.Goals as goal

pub returns-then-stopped : goal.returns-then-stopped
returns-then-stopped g c = record {
  same = same_on c.args.job.cells c.loop.cells c.stopped.new.self c.loop.invariant.1.same c.stopped.ensures.same;
  works = (c.stopped.ensures.met [] [] c.loop.invariant.1.works).1.now;
}

pub loop-preserved : goal.loop-preserved
loop-preserved g c = (
  ap (λ key. key.plan.value) c.stopped.ensures.same.key ∙ c.loop.invariant.0,
  record {
    same = same_on c.args.job.cells c.loop.cells c.stopped.new.self c.loop.invariant.1.same c.stopped.ensures.same;
    works = (c.stopped.ensures.met [] [] c.loop.invariant.1.works).1.now;
  },
)
