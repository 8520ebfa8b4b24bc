use Rattle.std.proofs.Common.{rules, arith, ◌≡◌, ◌+◌, suc, ◌<◌, ◌∙◌, length}
use Rattle.cd_tree.proofs.LastChild.{LastChild, last_child, no_child}
use Rattle.cd_tree.proofs.tree.Tree.+end_of.Goals as goal

pub end_of-requires : goal.end_of-requires
end_of-requires t c =
    let last : LastChild c.args.self.now.domains c.args.id c.in-Some.last =
    last_child c.args.self.now c.count.ensures.sound c.args.id c.node.result.now c.items.result.now c.in-Some.last c.node.ensures c.requires
    c.items.ensures.value c.in-Some.ensures in
    let later : c.args.id.0 < c.in-Some.last.0 = last.later in
    let there : c.in-Some.last.0 < length c.args.self.now.domains = last.there in
    search (rules, later, there)

pub returns-in-Some : goal.returns-in-Some
returns-in-Some t c =
    let last : LastChild c.args.self.now.domains c.args.id c.in-Some.last =
    last_child c.args.self.now c.count.ensures.sound c.args.id c.node.result.now c.items.result.now c.in-Some.last c.node.ensures c.requires
    c.items.ensures.value c.in-Some.ensures in
    c.end_of.ensures ∙ last.same

pub returns-in-None : goal.returns-in-None
returns-in-None t c =
    let next : c.args.id.0 + 1 ≡ suc c.args.id.0 = omega arith in
    next
    ∙ no_child c.args.self.now c.count.ensures.sound c.args.id c.node.result.now c.items.result.now c.node.ensures c.items.ensures.value
    c.in-None.ensures
