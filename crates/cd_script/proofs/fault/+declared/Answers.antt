use Rattle.std.proofs.Common.{rules, ◌<◌, ◌∙◌}
use Rattle.cd_script.proofs.Declared.{declared_root, declared_child}
use Rattle.cd_script.proofs.fault.+declared.Goals as goal

pub declared-requires : goal.declared-requires
declared-requires t c =
    let before : c.in-Some.parent.0 < c.args.node.0 =
    c.paths_go_from_parent_to_child.ensures.parents c.args.tree.now c.count.ensures.sound c.args.node c.in-Some.parent c.node-domain.result.now
    c.node-domain.ensures c.in-Some.is in
    search (rules, before)

pub returns-in-None : goal.returns-in-None
returns-in-None t c =
    declared_root c.paths_go_from_parent_to_child.ensures.paths c.args.tree.now c.count.ensures.sound c.args.node c.node-domain.result.now
    c.node-domain.ensures c.in-None.is

pub returns-in-Some : goal.returns-in-Some
returns-in-Some t c =
    c.union.ensures
    ∙ declared_child c.paths_go_from_parent_to_child.ensures.paths c.args.tree.now c.count.ensures.sound c.args.node c.node-domain.result.now
    c.node-domain.ensures c.in-Some.parent c.in-Some.is c.declared.result c.declared.ensures
