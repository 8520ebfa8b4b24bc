use Rattle.std.proofs.Common.{◌+◌, ◌*◌, map}
use Rattle.std.specs.Vec.Iter.{into_iter_items}
use Rattle.cd_core.specs.StateModel.{state_model}
use Rattle.cd_core.specs.Returning.{left_in}
use Rattle.cd_fork.specs.Onward.{OnItsWay, most_from, weight_of, weight_of_all}
use Rattle.cd_fork.proofs.Lists.{LeftOf}
use Rattle.cd_fork.proofs.+run.Given as goal

-- ---- the members

abbrev pub decreases-siblings::run_members : goal.decreases-siblings::run_members
decreases-siblings::run_members g l = weight_of_all l.plan.now (map (state_model g.F.Field.model g.P.Pass.model) l.low.items) + 3

abbrev pub decreases-siblings::run_members-front : goal.decreases-siblings::run_members-front
decreases-siblings::run_members-front g l = weight_of_all l.plan.now (map (state_model g.F.Field.model g.P.Pass.model) l.low.items) + 4

abbrev pub decreases-siblings::run_members-back : goal.decreases-siblings::run_members-back
decreases-siblings::run_members-back g l = weight_of_all l.plan.now (map (state_model g.F.Field.model g.P.Pass.model) l.high.items) + 4

abbrev pub decreases-siblings::run_in_turn : goal.decreases-siblings::run_in_turn
decreases-siblings::run_in_turn g l = most_from l.plan.now (map (state_model g.F.Field.model g.P.Pass.model) l.states.items) * 1024 + 2

-- those that are left give what all of them give
abbrev pub invariant-siblings::run_in_turn-loop-state : goal.invariant-siblings::run_in_turn-loop-state
invariant-siblings::run_in_turn-loop-state g l =
    LeftOf l.plan (map (state_model g.F.Field.model g.P.Pass.model) l.fn.states.items)
    (map (state_model g.F.Field.model g.P.Pass.model) (into_iter_items l.state-iterator))
    (map (state_model g.F.Field.model g.P.Pass.model) l.done.items)

-- ---- one domain

abbrev pub decreases-turns::run_domain : goal.decreases-turns::run_domain
decreases-turns::run_domain g l = weight_of l.plan.now (state_model g.F.Field.model g.P.Pass.model l.state) + 1

abbrev pub decreases-turns::take_turn : goal.decreases-turns::take_turn
decreases-turns::take_turn g l = weight_of l.plan.now (state_model g.F.Field.model g.P.Pass.model l.state.now)

abbrev pub invariant-turns::run_domain-loop-state : goal.invariant-turns::run_domain-loop-state
invariant-turns::run_domain-loop-state g l =
    OnItsWay l.plan (state_model g.F.Field.model g.P.Pass.model l.fn.state) (state_model g.F.Field.model g.P.Pass.model l.state)

abbrev pub decreases-turns::run_domain-loop-state : goal.decreases-turns::run_domain-loop-state
decreases-turns::run_domain-loop-state g l = left_in l.plan (state_model g.F.Field.model g.P.Pass.model l.state)
