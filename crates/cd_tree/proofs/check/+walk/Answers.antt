use Rattle.std.proofs.Common.{get_or, arith, inl, inr}
use Rattle.std.proofs.lemmas.List.{get_or_default}
use Rattle.cd_tree.specs.declared.domain.NodeId.{NodeId}
use Rattle.cd_tree.specs.Domains.{node_of, members_by, body_by, body_numbers, member_numbers, body_depth, members_depth}
use Rattle.cd_tree.proofs.Walk.{items_join, members_join, walk_on, walk_off, walk_over, walk_none, walk_in, walk_halts}
use Rattle.cd_tree.proofs.check.+walk.Goals as goal
use Rattle.cd_tree.proofs.check.+walk.Goals.{walk_domain-then-id-at-via-then-id-at, walk_domain-then-id-at-via-else-id-at+then-levels-eq0}

pub walk_domain-returns-in_default : goal.walk_domain-returns-in_default
walk_domain-returns-in_default t c =
    walk_none c.args.domains.now c.args.id c.args.at c.args.levels c.in_default.ensures

pub walk_domain-returns-then-id-at : goal.walk_domain-returns-then-id-at
walk_domain-returns-then-id-at t c =
    walk_halts (node_of c.args.domains.now c.args.id) c.args.id c.in-Some.domain.now
    (body_by (node_of c.args.domains.now) c.in-Some.domain.now.items) c.args.at c.args.levels
    (c.requires.view c.args.id c.in-Some.domain.now c.in-Some.ensures) (elim c.then-id-at.branch [
      | walk_domain-then-id-at-via-then-id-at w ↦ inl w.if-id-at.true
      | walk_domain-then-id-at-via-else-id-at+then-levels-eq0 w ↦ inr w.if-levels-eq0.true
    ])

pub walk_domain-returns : goal.walk_domain-returns
walk_domain-returns t c =
    walk_in (node_of c.args.domains.now c.args.id) c.args.id c.in-Some.domain.now
    (body_by (node_of c.args.domains.now) c.in-Some.domain.now.items) c.args.at c.args.levels c.walk_items.result
    (c.requires.view c.args.id c.in-Some.domain.now c.in-Some.ensures) (omega arith) (omega arith)
    (rw c.items.ensures.value at c.walk_items.ensures)

pub walk_items-returns-in_err-next : goal.walk_items-returns-in_err-next
walk_items-returns-in_err-next t c =
    let find = node_of c.args.domains.now in
    rw c.from_residual.ensures
    (walk_off (λ items. body_numbers (body_by find items)) (λ items. body_depth (body_by find items)) (items_join find)
    c.args.items.now c.loop-item.item-index c.item-item.result c.args.at c.loop-item.next c.args.levels
    c.loop-item-test.true c.item-item.is c.in_err-next.ensures c.loop-item.invariant)

pub walk_items-loop-item-preserved : goal.walk_items-loop-item-preserved
walk_items-loop-item-preserved t c =
    let find = node_of c.args.domains.now in
    walk_on (λ items. body_numbers (body_by find items)) (λ items. body_depth (body_by find items)) (items_join find)
    c.args.items.now c.loop-item.item-index c.item-item.result c.args.at c.loop-item.next c.in_ok-next.next c.args.levels
    c.loop-item-test.true c.item-item.is c.in_ok-next.ensures c.loop-item.invariant

pub walk_items-returns : goal.walk_items-returns
walk_items-returns t c =
    let find = node_of c.args.domains.now in
    walk_over (λ items. body_numbers (body_by find items)) (λ items. body_depth (body_by find items)) (items_join find)
    c.args.items.now c.loop-item.item-index c.args.at c.loop-item.next c.args.levels (omega arith) c.loop-item.invariant

pub walk_members-returns-in_err-next : goal.walk_members-returns-in_err-next
walk_members-returns-in_err-next t c =
    let find = node_of c.args.domains.now in
    let none : NodeId = record { 0 = 0 } in
    let member : NodeId = get_or c.args.ids.now c.loop-id.id-index none in
    rw c.from_residual.ensures
    (walk_off (λ ids. member_numbers (members_by find ids)) (λ ids. members_depth (members_by find ids)) (members_join find)
    c.args.ids.now c.loop-id.id-index member c.args.at c.loop-id.next c.args.levels
    c.loop-id-test.true (get_or_default c.args.ids.now c.loop-id.id-index none member c.loop-id-test.true) c.in_err-next.ensures c.loop-id.invariant)

pub walk_members-loop-id-preserved : goal.walk_members-loop-id-preserved
walk_members-loop-id-preserved t c =
    let find = node_of c.args.domains.now in
    let none : NodeId = record { 0 = 0 } in
    let member : NodeId = get_or c.args.ids.now c.loop-id.id-index none in
    walk_on (λ ids. member_numbers (members_by find ids)) (λ ids. members_depth (members_by find ids)) (members_join find)
    c.args.ids.now c.loop-id.id-index member c.args.at c.loop-id.next c.in_ok-next.next c.args.levels
    c.loop-id-test.true (get_or_default c.args.ids.now c.loop-id.id-index none member c.loop-id-test.true) c.in_ok-next.ensures c.loop-id.invariant

pub walk_members-returns : goal.walk_members-returns
walk_members-returns t c =
    let find = node_of c.args.domains.now in
    walk_over (λ ids. member_numbers (members_by find ids)) (λ ids. members_depth (members_by find ids)) (members_join find)
    c.args.ids.now c.loop-id.id-index c.args.at c.loop-id.next c.args.levels (omega arith) c.loop-id.invariant
