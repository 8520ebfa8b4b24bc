use Rattle.std.specs.Vec.Iter.{into_iter_items}
use Rattle.cd_pool.specs.Working.{HandBack, IsFree, MetWant}
use Rattle.cd_pool.proofs.run.gather.Given as goal

-- nothing is in hand, nor with those that are left; memory was wanting exactly where it was for one that is left
abbrev pub invariant-loop-back : goal.invariant-loop-back
invariant-loop-back g l =
    IsFree g.F.Field.model g.P.Pass.model l.fn.cells l.cells
    × HandBack g.F.Field.model g.P.Pass.model l.fn.cells (into_iter_items l.back-iterator)
    × (MetWant (into_iter_items l.back-iterator) → MetWant l.fn.backs.items)
    × (MetWant l.fn.backs.items → MetWant (into_iter_items l.back-iterator))
