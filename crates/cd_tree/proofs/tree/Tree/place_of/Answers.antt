use Rattle.std.proofs.Common.{◌<◌, arith}
use Rattle.cd_tree.proofs.PathParents.{parent_before}
use Rattle.cd_tree.proofs.Places.{place_found}
use Rattle.cd_tree.proofs.tree.Tree.place_of.Goals as goal

pub node-requires-in-Some : goal.node-requires-in-Some
node-requires-in-Some c =
    let before : c.in-Some.parent.0 < c.args.id.0 =
    parent_before c.args.self.now c.count.ensures.sound c.args.id c.node.result.now c.node.ensures c.in-Some.parent c.in-Some.is in
    omega arith

pub returns-in-Some : goal.returns-in-Some
returns-in-Some c =
    place_found c.args.self.now c.count.ensures.sound c.args.id c.in-Some.parent c.node.result.now c.node-in-Some.result.now c.items.result.now
    c.place_among.result c.node.ensures c.in-Some.is c.node-in-Some.ensures c.items.ensures.value c.place_among.ensures
