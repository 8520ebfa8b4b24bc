use Rattle.std.proofs.Common.{◌≡◌, ◌<◌, ◌+◌, ◌*◌, ◌-◌, ◌∙◌, ℕ, List, length, subst, sym, ap, arith}
use Rattle.cd_tree.specs.declared.domain.NodeId.{NodeId}
use Rattle.cd_tree.specs.Limits.{domains_limit}
use Rattle.cd_tree.proofs.View.{domain_here}
use Rattle.cd_cover.specs.Needs.{most_own, HoldsFrom}
use Rattle.cd_cover.proofs.NeedLemmas.{NeedsDown, down_all, down_one, down_end, need_small, in_view, added_small}
use Rattle.cd_cover.proofs.needs.needs_of.Goals as goal

pub loop-k-init : goal.loop-k-init
loop-k-init c =
    subst (λ n. NeedsDown c.args.tree.now.domains n c.in_ok-needs.needs.items) (sym c.count-k.ensures.value)
    (down_all c.args.tree.now.domains c.in_ok-needs.needs.items c.in_ok-needs.ensures.value)

pub groups_blocks-more-requires-clause-size : goal.groups_blocks-more-requires-clause-size
groups_blocks-more-requires-clause-size c = ap length c.deref.ensures.value ∙ c.loop-k.invariant.size

pub groups_blocks-more-requires-clause-below : goal.groups_blocks-more-requires-clause-below
groups_blocks-more-requires-clause-below c =
    let k : ℕ = c.loop-k.k in
    let next : k ≡ k - 1 + 1 = omega arith in
    subst (λ (xs : List ℕ). HoldsFrom c.args.tree.now.domains (k - 1 + 1) xs) (sym c.deref.ensures.value)
    (subst (λ n. HoldsFrom c.args.tree.now.domains n c.loop-k.needs.items) next c.loop-k.invariant.holds)

pub groups_blocks-more-requires-clause-fits : goal.groups_blocks-more-requires-clause-fits
groups_blocks-more-requires-clause-fits c =
    let within : c.loop-k.k - 1 < length c.args.tree.now.domains = omega arith in
    let id : NodeId = record { 0 = c.loop-k.k - 1 } in
    let here = domain_here c.args.tree.now.domains (c.loop-k.k - 1) within in
    let small = need_small c.args.tree.now c.requires c.the_nested_view_follows_the_list.ensures c.the_root_needs_the_most.ensures
    c.in_ok-needs.ensures.small id here.0 here.1 in
    in_view c.args.tree.now c.requires c.the_nested_view_follows_the_list.ensures id here.0 here.1 (λ n. n < 18446744073709551616) (omega arith)

pub index_mut-requires : goal.index_mut-requires
index_mut-requires c =
    let size : length c.loop-k.needs.items ≡ length c.args.tree.now.domains = c.loop-k.invariant.size in
    omega arith

pub overflow_add-index_mut : goal.overflow_add-index_mut
overflow_add-index_mut c =
    let within : c.loop-k.k - 1 < length c.args.tree.now.domains = omega arith in
    let id : NodeId = record { 0 = c.loop-k.k - 1 } in
    let here = domain_here c.args.tree.now.domains (c.loop-k.k - 1) within in
    let all : c.index_mut.result.now + c.groups_blocks-more.result < domains_limit * (most_own + 1) =
    added_small c.args.tree.now c.requires c.the_nested_view_follows_the_list.ensures c.the_root_needs_the_most.ensures
    c.in_ok-needs.ensures.small id here.0 here.1 c.loop-k.needs.items c.index_mut.result.now c.groups_blocks-more.result
    c.index_mut.ensures.value c.groups_blocks-more.ensures c.loop-k.k (omega arith) c.loop-k.invariant in
    omega arith

pub loop-k-preserved : goal.loop-k-preserved
loop-k-preserved c =
    let within : c.loop-k.k - 1 < length c.args.tree.now.domains = omega arith in
    let id : NodeId = record { 0 = c.loop-k.k - 1 } in
    let here = domain_here c.args.tree.now.domains (c.loop-k.k - 1) within in
    let next : c.loop-k.k ≡ c.loop-k.k - 1 + 1 = omega arith in
    down_one c.args.tree.now c.requires c.the_nested_view_follows_the_list.ensures id here.0 here.1 c.loop-k.needs.items
    c.index_mut.result.now c.groups_blocks-more.result c.index_mut.ensures.value c.groups_blocks-more.ensures
    (subst (λ n. NeedsDown c.args.tree.now.domains n c.loop-k.needs.items) next c.loop-k.invariant)

pub returns : goal.returns
returns c = down_end c.args.tree.now.domains c.loop-k.k c.loop-k.needs.items (omega arith) c.loop-k.invariant
