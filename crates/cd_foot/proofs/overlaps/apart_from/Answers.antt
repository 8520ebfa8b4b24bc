use Rattle.std.proofs.Common.{None, Some}
use Rattle.std.proofs.lemmas.Result.{err_from_is_err_and}
use Rattle.cd_foot.proofs.OverlapLemmas.{pair_passed}
use Rattle.cd_foot.proofs.overlaps.apart_from.Goals as goal

pub returns-in_err-pair_apart : goal.returns-in_err-pair_apart
returns-in_err-pair_apart c domains d are found =
    let p = err_from_is_err_and c.from_residual.result c.from_residual.ensures.1 in
    rw (p.1, p.2) (pair_passed domains c.args.feet.now c.args.one c.args.others.now c.loop-other.other-index d _ (Some _)
    are c.requires.one c.requires.others c.loop-other-test.true found
    (λ e there. c.in_err-pair_apart.ensures domains d e are found there) (c.loop-other.invariant domains d are found))

pub loop-other-preserved : goal.loop-other-preserved
loop-other-preserved c domains d are found =
    pair_passed domains c.args.feet.now c.args.one c.args.others.now c.loop-other.other-index d _ None
    are c.requires.one c.requires.others c.loop-other-test.true found
    (λ e there. c.in_ok-pair_apart.ensures domains d e are found there) (c.loop-other.invariant domains d are found)
