use Rattle.cd_tree.proofs.LastChild.{last_of_all}
use Rattle.cd_tree.proofs.groups.last_child.Goals as goal

pub returns-in-Some : goal.returns-in-Some
returns-in-Some c =
    last_of_all c.args.items.now c.loop-k.k c.index-items-k.result c.in-Some.last c.loop-k-test.true c.loop-k.auto.k c.index-items-k.is
    c.loop-k.invariant c.in-Some.ensures
