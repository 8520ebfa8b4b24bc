use Rattle.std.proofs.Common.{[]}
use Rattle.cd_pool.proofs.Passing.{same_on}
use Rattle.cd_pool.proofs.worker.take_up.Goals as goal

pub returns-in-Ok-true : goal.returns-in-Ok-true
returns-in-Ok-true g c = record {
  done = record {
    same = same_on c.args.cells.now c.work_at.new.cells c.stop.new.self c.in-Ok-true.ensures.done.same c.stop.ensures.same;
    works = (c.stop.ensures.stops [] [] c.in-Ok-true.ensures.done.works).now;
  };
}
