use Rattle.std.proofs.Common.{◌+◌, ◌∙◌, ◌&&◌, ◌==◌, drop, subst, sym, ap, List}
use Rattle.std.specs.List.{list_any}
use Rattle.cd_base.specs.Words.{in_range}
use Rattle.cd_base.specs.Places.{IsLeast}
use Rattle.cd_tree.specs.declared.domain.NodeId.{NodeId}
use Rattle.cd_tree.specs.TreeModel.{FitsItems, NamesChildren}
use Rattle.cd_tree.specs.Domains.{node_of}
use Rattle.cd_tree.proofs.View.{domain_fits, members_here}
use Rattle.cd_cover.proofs.Steps.{by_members, ItemsLeft, items_all, run_at, group_at, group_with_child, items_end, named_at, at_view}
use Rattle.cd_cover.proofs.written.first_before.Goals as goal
use Rattle.cd_cover.proofs.written.first_before.Goals.{in-Run, in-Group+else-is_among}

pub loop-item-init : goal.loop-item-init
loop-item-init c =
    let domains = c.args.program.now.tree.now.domains in
    items_all domains c.args.parent.0 c.args.range c.args.child.0 c.items-item-items.result.now
    (subst (FitsItems domains c.args.parent.0) (sym c.items-item-items.ensures.value)
    (domain_fits c.args.program.now.tree.now c.requires.program.sound c.args.parent c.node.result.now c.node.ensures).items)

pub returns-then-is_among : goal.returns-then-is_among
returns-then-is_among c =
    let domains = c.args.program.now.tree.now.domains in
    at_view c.args.program.now.tree.now c.requires.program.sound c.the_nested_view_follows_the_list.ensures c.args.parent c.node.result.now c.node.ensures
    c.args.range c.args.child.0 c.items-item-items.result.now c.items-item-items.ensures.value c.loop-item.found
    (group_with_child domains c.args.parent.0 c.args.range c.args.child.0 c.loop-item.found c.items-item-items.result.now
    c.loop-item.item-index c.item-item.result c.in-Group.members c.loop-item-test.true c.item-item.is c.in-Group.is
    (ap (λ (ms : List NodeId). list_any (λ m. m.0 == c.args.child.0) ms) (sym c.items.ensures.value) ∙ sym c.is_among.ensures ∙ c.if-is_among.true)
    c.loop-item.invariant)

pub first_of_members-requires-clause-members : goal.first_of_members-requires-clause-members
first_of_members-requires-clause-members c =
    let domains = c.args.program.now.tree.now.domains in
    members_here domains c.args.parent.0 c.items-in-Group.result.now
    (subst (NamesChildren domains c.args.parent.0) (sym c.items-in-Group.ensures.value)
    (named_at domains c.args.parent.0 c.args.range c.args.child.0 c.loop-item.found c.items-item-items.result.now
    c.loop-item.item-index c.item-item.result c.in-Group.members c.loop-item-test.true c.item-item.is c.in-Group.is c.loop-item.invariant))

pub loop-item-preserved : goal.loop-item-preserved
loop-item-preserved c =
    let domains = c.args.program.now.tree.now.domains in
    let items = c.items-item-items.result.now in
    let i = c.loop-item.item-index in
    elim c.match-item.branch [
      | in-Run w ↦
          subst (λ found. ItemsLeft domains c.args.parent.0 c.args.range c.args.child.0 found (drop (i + 1) items) items)
          (sym (w.found-is ∙ w.earlier-found.ensures))
          (run_at domains c.args.parent.0 c.args.range c.args.child.0 c.loop-item.found w.first_common.result items i c.item-item.result
          w.in-Run.op c.loop-item-test.true c.item-item.is w.in-Run.is
          (subst (λ s. IsLeast (λ q. in_range c.args.range q && in_range s q) w.first_common.result) w.writes.ensures w.first_common.ensures)
          c.loop-item.invariant)
      | in-Group+else-is_among w ↦
          subst (λ found. ItemsLeft domains c.args.parent.0 c.args.range c.args.child.0 found (drop (i + 1) items) items)
          (sym (w.found-is ∙ w.earlier-found-in-Group.ensures))
          (group_at domains c.args.parent.0 c.args.range c.args.child.0 c.loop-item.found w.first_of_members.result items i c.item-item.result
          w.in-Group.members c.loop-item-test.true c.item-item.is w.in-Group.is
          (ap (λ (ms : List NodeId). list_any (λ m. m.0 == c.args.child.0) ms) (sym w.items.ensures.value) ∙ sym w.is_among.ensures ∙ w.if-is_among.false)
          (subst (λ (ms : List NodeId). IsLeast (by_members c.args.range (node_of domains) ms) w.first_of_members.result)
          w.items-in-Group.ensures.value w.first_of_members.ensures)
          c.loop-item.invariant)
    ]

pub returns : goal.returns
returns c =
    at_view c.args.program.now.tree.now c.requires.program.sound c.the_nested_view_follows_the_list.ensures c.args.parent c.node.result.now c.node.ensures
    c.args.range c.args.child.0 c.items-item-items.result.now c.items-item-items.ensures.value c.loop-item.found
    (items_end c.args.program.now.tree.now.domains c.args.parent.0 c.args.range c.args.child.0 c.loop-item.found c.items-item-items.result.now
    c.loop-item.item-index c.loop-item-test.false c.loop-item.invariant)
