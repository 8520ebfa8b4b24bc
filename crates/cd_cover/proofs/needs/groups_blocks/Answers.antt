use Rattle.std.proofs.Common.{◌≡◌, ◌<◌, ◌^◌, ◌+◌, ◌∙◌, List, drop, max, subst, sym, ap}
use Rattle.cd_tree.specs.declared.domain.Item.{Item}
use Rattle.cd_tree.specs.TreeModel.{FitsItems}
use Rattle.cd_tree.specs.Domains.{body_by, node_of}
use Rattle.cd_tree.specs.Meaning.{body_need}
use Rattle.cd_tree.proofs.View.{domain_fits}
use Rattle.cd_cover.proofs.NeedLemmas.{GroupsLeft, groups_all, item_less, can_add, groups_end, in_view, of_view}
use Rattle.cd_cover.proofs.needs.groups_blocks.Goals as goal

pub loop-item-init : goal.loop-item-init
loop-item-init c =
    groups_all c.args.tree.now.domains c.args.node.0 c.items-item-items.result.now
    (subst (FitsItems c.args.tree.now.domains c.args.node.0) (sym c.items-item-items.ensures.value)
    (domain_fits c.args.tree.now c.requires.tree c.args.node c.node.result.now c.node.ensures).items)

pub item_blocks-requires : goal.item_blocks-requires
item_blocks-requires c =
    let domains = c.args.tree.now.domains in
    let items = c.items-item-items.result.now in
    let all : body_need (body_by (node_of domains) items) < 2 ^ 64 =
    subst (λ (xs : List Item). body_need (body_by (node_of domains) xs) < 2 ^ 64) (sym c.items-item-items.ensures.value)
    (of_view c.args.tree.now c.requires.tree c.the_nested_view_follows_the_list.ensures c.args.node c.node.result.now c.node.ensures
    (λ n. n < 2 ^ 64) c.requires.fits) in
    can_add domains c.args.node.0 c.loop-item.most c.args.needs.now items c.loop-item.item-index c.item-item.result c.loop-item-test.true
    c.item-item.is c.requires.below c.requires.size all c.loop-item.invariant

pub loop-item-preserved : goal.loop-item-preserved
loop-item-preserved c =
    let items = c.items-item-items.result.now in
    let i = c.loop-item.item-index in
    subst (λ n. GroupsLeft c.args.tree.now.domains c.args.node.0 n (drop (i + 1) items) items)
    (sym (c.max-most.ensures ∙ ap (λ n. max c.loop-item.most n) c.item_blocks.ensures))
    (item_less c.args.tree.now.domains c.args.node.0 c.loop-item.most c.args.needs.now items i c.item-item.result c.loop-item-test.true
    c.item-item.is c.requires.below c.loop-item.invariant)

pub returns : goal.returns
returns c =
    let domains = c.args.tree.now.domains in
    in_view c.args.tree.now c.requires.tree c.the_nested_view_follows_the_list.ensures c.args.node c.node.result.now c.node.ensures
    (λ n. c.loop-item.most ≡ n)
    (groups_end domains c.args.node.0 c.loop-item.most c.items-item-items.result.now c.loop-item.item-index c.loop-item-test.false
    c.loop-item.invariant
    ∙ ap (λ (xs : List Item). body_need (body_by (node_of domains) xs)) c.items-item-items.ensures.value)
