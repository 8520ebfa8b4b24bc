use Rattle.std.proofs.Common.{[], sym, subst}
use Rattle.std.proofs.lemmas.List.Elements.{All-push}
use Rattle.cd_pool.specs.declared.worker.Job.{Job}
use Rattle.cd_pool.specs.Working.{AreFree, IsFree}
use Rattle.cd_pool.proofs.Passing.{same_on}
use Rattle.cd_pool.proofs.run.jobs_for.Goals as goal

pub loop-deque-preserved : goal.loop-deque-preserved
loop-deque-preserved g c =
    let here = c.loop-deque.invariant.0 in
    let child = c.in_ok-cells.ensures.child in (
      record {
        same = same_on c.args.cells.now c.loop-deque.cells c.split.new.self here.same c.split.ensures.same;
        works = (c.split.ensures.stays [] [] here.works).now;
      },
      subst (AreFree g.F.Field.model g.P.Pass.model c.args.cells.now) (sym c.in_ok-push.ensures.items)
          (All-push (λ (job : Job _ _). IsFree g.F.Field.model g.P.Pass.model c.args.cells.now job.cells) c.loop-deque.jobs.items _ c.loop-deque.invariant.1
          (record { same = same_on c.args.cells.now c.loop-deque.cells c.in_ok-cells.cells here.same child.same; works = child.has })),
    )
