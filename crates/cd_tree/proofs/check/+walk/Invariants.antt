use Rattle.std.proofs.Common.{◌+◌, ◌*◌}
use Rattle.cd_tree.specs.Domains.{node_of, members_by, body_by, body_numbers, member_numbers, body_depth, members_depth}
use Rattle.cd_tree.proofs.Walk.{LeavesWhole}
use Rattle.cd_tree.proofs.check.+walk.Given as goal

-- a domain takes a level, and what it has in it is smaller in this order: items, one item, members, one domain
abbrev pub decreases-walk_domain : goal.decreases-walk_domain
decreases-walk_domain l = 4 * l.levels

abbrev pub decreases-walk_item : goal.decreases-walk_item
decreases-walk_item l = 4 * l.levels + 2

abbrev pub decreases-walk_items : goal.decreases-walk_items
decreases-walk_items l = 4 * l.levels + 3

abbrev pub decreases-walk_members : goal.decreases-walk_members
decreases-walk_members l = 4 * l.levels + 1

-- what the walk over the rest answers is the answer for all
abbrev pub invariant-walk_items-loop-item : goal.invariant-walk_items-loop-item
invariant-walk_items-loop-item l =
    let find = node_of l.domains in
    LeavesWhole (λ items. body_numbers (body_by find items)) (λ items. body_depth (body_by find items)) l.items l.item-index l.next l.fn.at l.levels

abbrev pub invariant-walk_members-loop-id : goal.invariant-walk_members-loop-id
invariant-walk_members-loop-id l =
    let find = node_of l.domains in
    LeavesWhole (λ ids. member_numbers (members_by find ids)) (λ ids. members_depth (members_by find ids)) l.ids l.id-index l.next l.fn.at l.levels
