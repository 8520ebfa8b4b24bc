use Rattle.std.proofs.Common.{◌≤◌, List, None, Some, All, length, subst, sym, arith}
use Rattle.std.proofs.lemmas.Result.{err_from_is_err_and}
use Rattle.cd_tree.specs.declared.domain.NodeId.{NodeId}
use Rattle.cd_tree.specs.declared.domain.Item.{Item}
use Rattle.cd_foot.specs.Gathered.{IsItemOf}
use Rattle.cd_foot.proofs.SideLemmas.{gatherable_items}
use Rattle.cd_foot.proofs.OverlapLemmas.{domain_passed, none_left, disjoint_where_none, not_disjoint_where_some}
use Rattle.cd_foot.proofs.overlaps.disjoint.Goals as goal

pub items_apart-requires : goal.items_apart-requires
items_apart-requires c =
    let node : NodeId = record { 0 = c.loop-id.id } in
    let Q : List Item → Type 0 = λ items. All (IsItemOf (length c.args.feet.now)) items in
    subst Q (sym c.items.ensures.value)
    (gatherable_items c.args.tree.now c.count-count.ensures.sound node c.node.result.now c.node.ensures (length c.args.feet.now) c.requires.size)

pub loop-id-preserved : goal.loop-id-preserved
loop-id-preserved c =
    let node : NodeId = record { 0 = c.loop-id.id } in
    domain_passed c.args.tree.now c.count-count.ensures.sound node c.node.result.now c.items.result.now None
    c.node.ensures c.items.ensures.value (c.in_ok-items_apart.ensures c.args.tree.now.domains c.requires) c.loop-id.invariant

pub returns-in_err-items_apart-clause-first : goal.returns-in_err-items_apart-clause-first
returns-in_err-items_apart-clause-first c =
    let node : NodeId = record { 0 = c.loop-id.id } in
    let p = err_from_is_err_and c.from_residual.result c.from_residual.ensures.1 in
    rw (p.1, p.2) (domain_passed c.args.tree.now c.count-count.ensures.sound node c.node.result.now c.items.result.now (Some _)
    c.node.ensures c.items.ensures.value (c.in_err-items_apart.ensures c.args.tree.now.domains c.requires) c.loop-id.invariant)

pub returns-in_err-items_apart-clause-exactly : goal.returns-in_err-items_apart-clause-exactly
returns-in_err-items_apart-clause-exactly c =
    let node : NodeId = record { 0 = c.loop-id.id } in
    let p = err_from_is_err_and c.from_residual.result c.from_residual.ensures.1 in
    rw p.1 (not_disjoint_where_some c.args.tree.now c.count-count.ensures.sound c.each_domain_answers_for_itself.ensures.disjoint _
    (domain_passed c.args.tree.now c.count-count.ensures.sound node c.node.result.now c.items.result.now (Some _)
    c.node.ensures c.items.ensures.value (c.in_err-items_apart.ensures c.args.tree.now.domains c.requires) c.loop-id.invariant))

pub returns-clause-first : goal.returns-clause-first
returns-clause-first c =
    let all : length c.args.tree.now.domains ≤ c.loop-id.id = omega (arith, c.count-count.ensures.value, c.loop-id-test.false) in
    none_left c.args.tree.now.domains c.loop-id.id all c.loop-id.invariant

pub returns-clause-exactly : goal.returns-clause-exactly
returns-clause-exactly c =
    let all : length c.args.tree.now.domains ≤ c.loop-id.id = omega (arith, c.count-count.ensures.value, c.loop-id-test.false) in
    disjoint_where_none c.args.tree.now c.count-count.ensures.sound c.each_domain_answers_for_itself.ensures.disjoint
    (none_left c.args.tree.now.domains c.loop-id.id all c.loop-id.invariant)
