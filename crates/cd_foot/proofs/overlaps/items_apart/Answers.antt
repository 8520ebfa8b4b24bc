use Rattle.std.proofs.Common.{None, Some}
use Rattle.std.proofs.lemmas.Result.{err_from_is_err_and}
use Rattle.cd_tree.specs.Domains.{node_of}
use Rattle.cd_foot.proofs.OverlapLemmas.{item_passed}
use Rattle.cd_foot.proofs.overlaps.items_apart.Goals as goal

pub returns-in_err-item_apart : goal.returns-in_err-item_apart
returns-in_err-item_apart c domains are =
    let p = err_from_is_err_and c.from_residual.result c.from_residual.ensures.1 in
    rw (p.1, p.2) (item_passed (node_of domains) c.args.items.now c.loop-item.item-index c.item-item.result _ (Some _)
    c.loop-item-test.true c.item-item.is (c.in_err-item_apart.ensures domains are) (c.loop-item.invariant domains are))

pub loop-item-preserved : goal.loop-item-preserved
loop-item-preserved c domains are =
    item_passed (node_of domains) c.args.items.now c.loop-item.item-index c.item-item.result _ None
    c.loop-item-test.true c.item-item.is (c.in_ok-item_apart.ensures domains are) (c.loop-item.invariant domains are)
