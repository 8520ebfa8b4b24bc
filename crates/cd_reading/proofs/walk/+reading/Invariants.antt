use Rattle.std.proofs.Common.{◌+◌, ◌-◌, ◌*◌, length, drop}
use Rattle.cd_tree.specs.Domains.{node_of, body_by, members_by}
use Rattle.cd_tree.specs.KindSets.{no_kinds}
use Rattle.cd_tree.specs.Reading.{read_node, read_points, read_members}
use Rattle.cd_tree.specs.Record.{case_of}
use Rattle.cd_reading.specs.Ends.{group_end, GroupFits}
use Rattle.cd_reading.specs.Steps.{try_of}
use Rattle.cd_reading.specs.Walk.{the_node, listed}
use Rattle.cd_reading.proofs.Quiet.{TriesLeft}
use Rattle.cd_reading.proofs.Walking.{PointsLeft, MembersLeft}
use Rattle.cd_reading.proofs.walk.+reading.Given as goal

-- members have greater numbers, and what a domain has in it is smaller in this order: its tries, a try, its points, an item, members
abbrev pub decreases-read_domain : goal.decreases-read_domain
decreases-read_domain l = 6 * (length l.case.now.tree.now.domains - l.id.0) + 5

abbrev pub decreases-read_tries : goal.decreases-read_tries
decreases-read_tries l = 6 * (length l.case.now.tree.now.domains - l.id.0) + 4

abbrev pub decreases-read_one_try : goal.decreases-read_one_try
decreases-read_one_try l = 6 * (length l.case.now.tree.now.domains - l.id.0) + 3

abbrev pub decreases-read_all_points : goal.decreases-read_all_points
decreases-read_all_points l = 6 * (length l.case.now.tree.now.domains - l.hand.now.node.0) + 2

abbrev pub decreases-pass_item : goal.decreases-pass_item
decreases-pass_item l = 6 * (length l.case.now.tree.now.domains - l.hand.now.node.0) + 1

abbrev pub decreases-read_all_members : goal.decreases-read_all_members
decreases-read_all_members l = 6 * (length l.case.now.tree.now.domains - l.parent.0)

-- the tries that are left are what is left of the domain
abbrev pub invariant-read_tries-loop : goal.invariant-read_tries-loop
invariant-read_tries-loop l =
    TriesLeft (case_of l.case.tree.now l.case.script.now) l.fn.id l.domain (body_by (node_of l.case.tree.now.domains) l.domain.items)
    (l.domain.retry - l.counter) (listed l.counts)
    (read_node (case_of l.case.tree.now l.case.script.now) (the_node l.case.tree.now.domains l.fn.id) (listed l.initial.counts))

-- the points that are left are what is left of the try
abbrev pub invariant-read_all_points-loop-point : goal.invariant-read_all_points-loop-point
invariant-read_all_points-loop-point l =
    PointsLeft (case_of l.case.tree.now l.case.script.now) (node_of l.case.tree.now.domains) (try_of l.hand) l.point l.notes (listed l.counts)
    (drop l.point l.items)
    (read_points (case_of l.case.tree.now l.case.script.now) (body_by (node_of l.case.tree.now.domains) l.items) (try_of l.hand) 0 no_kinds (listed l.initial.counts))

-- the members that are left are what is left of the group
abbrev pub invariant-read_all_members-loop-id : goal.invariant-read_all_members-loop-id
invariant-read_all_members-loop-id l =
    MembersLeft (case_of l.case.tree.now l.case.script.now) l.case.tree.now.domains l.fn.parent.0 (group_end l.ends) (listed l.counts) (drop l.id-index l.ids)
    (read_members (case_of l.case.tree.now l.case.script.now) (members_by (node_of l.case.tree.now.domains) l.ids) (listed l.initial.counts))
    × GroupFits (length l.case.tree.now.domains) l.ends
