use Rattle.std.proofs.Common.{◌+◌, None, Some}
use Rattle.std.proofs.lemmas.List.{take_rest}
use Rattle.std.proofs.lemmas.Result.{err_from_is_err_and}
use Rattle.cd_foot.proofs.OverlapLemmas.{member_passed}
use Rattle.cd_foot.proofs.overlaps.pairs_apart.Goals as goal

pub returns-in_err-apart_from : goal.returns-in_err-apart_from
returns-in_err-apart_from c domains are =
    let p = err_from_is_err_and c.from_residual.result c.from_residual.ensures.1 in
    rw (p.1, p.2) (member_passed domains c.args.feet.now c.args.members.now c.loop-number.number _ _ (Some _)
    are c.requires c.loop-number-test.true (take_rest c.args.members.now (c.loop-number.number + 1))
    (c.in_err-apart_from.ensures domains) (c.loop-number.invariant domains are))

pub loop-number-preserved : goal.loop-number-preserved
loop-number-preserved c domains are =
    member_passed domains c.args.feet.now c.args.members.now c.loop-number.number _ _ None
    are c.requires c.loop-number-test.true (take_rest c.args.members.now (c.loop-number.number + 1))
    (c.in_ok-apart_from.ensures domains) (c.loop-number.invariant domains are)
