use Rattle.std.proofs.Common.{◌≡◌, ◌+◌, ◌*◌, false, length, map}
use Rattle.std.specs.Vec.Iter.{into_iter_items, into_iter_len}
use Rattle.cd_state_tests.specs.Groups.{HasTurned}
use Rattle.cd_core.specs.StateModel.{state_model}
use Rattle.cd_state_tests.proofs.GroupLemmas.{ComeOn}
use Rattle.cd_state_tests.proofs.tests.groups.+ends.Given as goal

-- a group's members have a level less
abbrev pub decreases-ends : goal.decreases-ends
decreases-ends g l = 4 * l.levels + 3

abbrev pub decreases-turns : goal.decreases-turns
decreases-turns g l = 4 * l.levels + 2

abbrev pub decreases-takes : goal.decreases-takes
decreases-takes g l = 4 * l.levels + 1

abbrev pub decreases-all_end : goal.decreases-all_end
decreases-all_end g l = 4 * l.levels

-- the turns so far
abbrev pub invariant-ends-loop : goal.invariant-ends-loop
invariant-ends-loop g l =
    HasTurned l.plan (state_model g.F.Field.model g.P.Pass.model l.fn.sent) (state_model g.F.Field.model g.P.Pass.model l.state) false

-- those that are left come back behind those that did
abbrev pub invariant-all_end-loop-member : goal.invariant-all_end-loop-member
invariant-all_end-loop-member g l =
    ComeOn l.plan (map (state_model g.F.Field.model g.P.Pass.model) l.fn.sent.items)
    (map (state_model g.F.Field.model g.P.Pass.model) (into_iter_items l.member-iterator))
    (map (state_model g.F.Field.model g.P.Pass.model) l.children.items)
    × (into_iter_len l.member-iterator ≡ length (into_iter_items l.member-iterator))
