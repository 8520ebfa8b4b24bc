use Rattle.std.proofs.Common.{rules, ◌<◌, ◌∙◌}
use Rattle.cd_tree.specs.Paths.{path_text_of}
use Rattle.cd_tree.proofs.PathParents.{parent_before}
use Rattle.cd_tree.proofs.PathTexts.{text_of_root, text_of_child}
use Rattle.cd_tree.proofs.PathEnds.{same_test, not_named, named_below}
use Rattle.cd_tree.proofs.path.+has_path.Goals as goal

pub has_path-requires : goal.has_path-requires
has_path-requires t c =
    let before : c.in-Some.parent.0 < c.args.node.0 =
    parent_before c.args.tree.now c.requires.tree c.args.node c.node-domain.result.now c.node-domain.ensures c.in-Some.parent c.in-Some.is in
    search (rules, before)

pub returns-in-None : goal.returns-in-None
returns-in-None t c =
    same_test c.eq.result c.args.path.now c.as_bytes-name.result.now (path_text_of c.args.tree.now.domains c.args.node) c.eq.ensures
    (text_of_root c.args.tree.now c.requires.tree c.args.node c.node-domain.result.now c.node-domain.ensures c.in-None.is
    ∙ cc)

pub returns-in-None-before_name : goal.returns-in-None-before_name
returns-in-None-before_name t c =
    not_named c.args.path.now c.as_bytes-name.result.now c.node-domain.result.now.name
    (path_text_of c.args.tree.now.domains c.in-Some.parent) (path_text_of c.args.tree.now.domains c.args.node)
    (text_of_child c.args.tree.now c.requires.tree c.args.node c.node-domain.result.now c.node-domain.ensures c.in-Some.parent c.in-Some.is)
    (c.as_bytes-name.ensures.value ∙ c.as_str.ensures) c.in-None-before_name.ensures

pub returns-in-Some-before_name : goal.returns-in-Some-before_name
returns-in-Some-before_name t c =
    named_below c.has_path.result c.args.path.now c.as_bytes-name.result.now c.node-domain.result.now.name
    (path_text_of c.args.tree.now.domains c.in-Some.parent) (path_text_of c.args.tree.now.domains c.args.node)
    c.in-Some-before_name.rest.now
    (text_of_child c.args.tree.now c.requires.tree c.args.node c.node-domain.result.now c.node-domain.ensures c.in-Some.parent c.in-Some.is)
    (c.as_bytes-name.ensures.value ∙ c.as_str.ensures) c.in-Some-before_name.ensures c.has_path.ensures
