use Rattle.std.proofs.Common.{rules, true, false, ◌≡◌, ◌∙◌, ◌+◌, ◌-◌, ◌*◌, ◌/◌, ◌<◌, ◌≤◌, ◌∷◌, List, map, length, ap}
use Rattle.std.specs.Vec.Iter.{into_iter_items}
use Rattle.std.proofs.lemmas.List.{map_push}
use Rattle.std.proofs.lemmas.Result.{IfOk-at_ok}
use Rattle.cd_tree.specs.declared.domain.NodeId.{NodeId}
use Rattle.cd_core.specs.StateModel.{StateModel, state_model}
use Rattle.cd_core.specs.Returning.{EachCameBack}
use Rattle.cd_fork.specs.Onward.{CanRun, EachCanRun, most_from, domains_from, weight_of_all}
use Rattle.cd_fork.proofs.Below.{AreBelow, are_below}
use Rattle.cd_fork.proofs.Turning.{way_begins, turned_on, turned_over, members_taken, taken_on, came_back}
use Rattle.cd_fork.proofs.Lists.{Halves, in_halves, halves_back, left_first, left_next, left_more, left_none}
use Rattle.cd_fork.proofs.+run.Goals as goal

-- ---- one domain

pub turns::run_domain-loop-state-init : goal.turns::run_domain-loop-state-init
turns::run_domain-loop-state-init g t c = way_begins c.args.plan.now (state_model g.F.Field.model g.P.Pass.model c.args.state) c.requires

pub turns::run_domain-take_turn-requires : goal.turns::run_domain-take_turn-requires
turns::run_domain-take_turn-requires g t c κs =
    let can : CanRun c.args.plan.now (state_model g.F.Field.model g.P.Pass.model c.loop-state.state) = c.loop-state.invariant.can in
    let same : c.loop-state.state.node.0 ≡ c.args.state.node.0 = ap (λ (id : NodeId). id.0) c.loop-state.invariant.stays.node in
    search (rules, can, same)

pub turns::run_domain-loop-state-preserved : goal.turns::run_domain-loop-state-preserved
turns::run_domain-loop-state-preserved g t c =
    let over : c.in_ok-take_turn.field-0 ≡ false = search rules in
    (turned_on c.args.plan.now (state_model g.F.Field.model g.P.Pass.model c.args.state) (state_model g.F.Field.model g.P.Pass.model c.loop-state.state)
    (state_model g.F.Field.model g.P.Pass.model c.take_turn.new.state) c.in_ok-take_turn.field-0 over c.loop-state.invariant c.in_ok-take_turn.ensures).0

pub turns::run_domain-returns : goal.turns::run_domain-returns
turns::run_domain-returns g t c =
    let over : c.in_ok-take_turn.field-0 ≡ true = search rules in
    turned_over c.args.plan.now (state_model g.F.Field.model g.P.Pass.model c.args.state) (state_model g.F.Field.model g.P.Pass.model c.loop-state.state)
    (state_model g.F.Field.model g.P.Pass.model c.take_turn.new.state) c.in_ok-take_turn.field-0 over c.loop-state.invariant c.in_ok-take_turn.ensures

-- ---- a turn

pub turns::take_turn-run_members-requires : goal.turns::take_turn-run_members-requires
turns::take_turn-run_members-requires g t c κs =
    let old : StateModel = state_model g.F.Field.model g.P.Pass.model c.args.state.now in
    let mid : StateModel = state_model g.F.Field.model g.P.Pass.model c.advance.new.self in
    let sent : List StateModel = map (state_model g.F.Field.model g.P.Pass.model) c.in-Group.children.items in
    let below : AreBelow c.args.plan.now c.args.state.now.node.0 sent =
    are_below c.args.plan.now old mid sent c.is_settled.ensures c.in-Group.ensures.exact c.in-Group.ensures.fits.1 in
    let can : EachCanRun c.args.plan.now sent = below.can in
    let light : weight_of_all c.args.plan.now sent + 4 ≤ (length c.args.plan.now.tree.domains - c.args.state.now.node.0) * 1024 = below.light in
    search (rules, can, light)

pub turns::take_turn-resume-requires-clause-members : goal.turns::take_turn-resume-requires-clause-members
turns::take_turn-resume-requires-clause-members g t c κs within =
    let seen = state_model g.F.Field.model g.P.Pass.model in
    members_taken c.members_come_back.ensures.takes c.args.plan.now (seen c.args.state.now) (seen c.advance.new.self)
    (map seen c.in-Group.children.items) (map seen c.in_ok-back-in-Group.back.items) c.is_settled.ensures c.in-Group.ensures.exact c.in-Group.ensures.fits.0
    c.in_ok-back-in-Group.ensures

pub turns::take_turn-resume-requires-clause-takes : goal.turns::take_turn-resume-requires-clause-takes
turns::take_turn-resume-requires-clause-takes g t c κs within =
    let seen = state_model g.F.Field.model g.P.Pass.model in
    (c.members_come_back.ensures.takes c.args.plan.now (seen c.args.state.now) (seen c.advance.new.self) (map seen c.in-Group.children.items)
    (map seen c.in_ok-back-in-Group.back.items) c.is_settled.ensures c.in-Group.ensures.exact c.in-Group.ensures.fits.0 c.in_ok-back-in-Group.ensures).takes

pub turns::take_turn-returns-in_ok-resume-in-Group : goal.turns::take_turn-returns-in_ok-resume-in-Group
turns::take_turn-returns-in_ok-resume-in-Group g t c =
    let seen = state_model g.F.Field.model g.P.Pass.model in
    taken_on c.members_come_back.ensures.answers c.args.plan.now (seen c.args.state.now) (seen c.advance.new.self) (seen c.resume.new.self)
    (map seen c.in-Group.children.items) (map seen c.in_ok-back-in-Group.back.items) c.in-Group.ensures.stays c.in-Group.ensures.stands
    c.in-Group.ensures.onward.1 c.in_ok-back-in-Group.ensures c.in_ok-resume-in-Group.ensures.fits c.in_ok-resume-in-Group.ensures.moves c.in_ok-resume-in-Group.ensures.stays
    c.in_ok-resume-in-Group.ensures.stands c.in_ok-resume-in-Group.ensures.onward

pub turns::take_turn-returns-in-Done : goal.turns::take_turn-returns-in-Done
turns::take_turn-returns-in-Done g t c =
    came_back c.args.plan.now (state_model g.F.Field.model g.P.Pass.model c.args.state.now) (state_model g.F.Field.model g.P.Pass.model c.advance.new.self)
    c.in-Done.ensures.fits c.in-Done.ensures.onward c.in-Done.ensures.stays c.in-Done.ensures.stands

pub turns::take_turn-returns-in-Escalated : goal.turns::take_turn-returns-in-Escalated
turns::take_turn-returns-in-Escalated g t c =
    came_back c.args.plan.now (state_model g.F.Field.model g.P.Pass.model c.args.state.now) (state_model g.F.Field.model g.P.Pass.model c.advance.new.self)
    c.in-Escalated.ensures.fits c.in-Escalated.ensures.onward c.in-Escalated.ensures.stays c.in-Escalated.ensures.stands

-- ---- the members

pub siblings::run_members-join-first-requires-after_bounds : goal.siblings::run_members-join-first-requires-after_bounds
siblings::run_members-join-first-requires-after_bounds g t c κs within =
    let seen = state_model g.F.Field.model g.P.Pass.model in
    let cut = c.in_ok-high.ensures in
    let xs = c.args.low.items in
    let some : 0 < length c.split_off.new.self.items = search rules in
    let more : 0 < length c.in_ok-high.high.items = search rules in
    let halves : Halves c.args.plan.now (map seen xs) (map seen c.split_off.new.self.items) (map seen c.in_ok-high.high.items) =
    in_halves seen c.args.plan.now (c.len-2.result / 2) xs c.split_off.new.self.items c.in_ok-high.high.items cut.items cut.tail some more c.requires in
    let low_can = halves.low_can in let high_can = halves.high_can in
    let low_light = halves.low_light in let high_light = halves.high_light in
    (search (rules, low_can, low_light), search (rules, high_can, high_light))

pub siblings::run_members-returns : goal.siblings::run_members-returns
siblings::run_members-returns g t c =
    let seen = state_model g.F.Field.model g.P.Pass.model in
    let plan = c.args.plan.now in
    let cut = c.in_ok-high.ensures in
    let low = c.split_off.new.self.items in
    let high = c.in_ok-high.high.items in
    halves_back seen plan (c.len-2.result / 2) c.args.low.items low high c.in_ok-all.all.items c.in_ok-more.more.items c.append.new.self.items
    cut.items cut.tail c.in_ok-append.ensures.items
    (IfOk-at_ok (λ v. EachCameBack plan (map seen low) (map seen v.items)) c.in_ok-all.was c.join-first.ensures.first)
    (IfOk-at_ok (λ v. EachCameBack plan (map seen high) (map seen v.items)) c.in_ok-more.was c.join-first.ensures.second)

pub siblings::run_in_turn-loop-state-init : goal.siblings::run_in_turn-loop-state-init
siblings::run_in_turn-loop-state-init g t c =
    let seen = state_model g.F.Field.model g.P.Pass.model in
    let items : into_iter_items c.into_iter-state-iterator.result ≡ c.args.states.items = search rules in
    left_first c.args.plan.now (map seen c.args.states.items) (map seen (into_iter_items c.into_iter-state-iterator.result)) (map seen c.new-done.result.items) (ap (map seen) items) (ap (map seen) c.new-done.ensures.items) c.requires

pub siblings::run_in_turn-run_domain-requires : goal.siblings::run_in_turn-run_domain-requires
siblings::run_in_turn-run_domain-requires g t c κs =
    let seen = state_model g.F.Field.model g.P.Pass.model in
    let items : into_iter_items c.loop-state.state-iterator ≡ c.in-Some.state ∷ into_iter_items c.next.new.self = search rules in
    let next = left_next c.args.plan.now (map seen c.args.states.items) (map seen (into_iter_items c.loop-state.state-iterator))
    (map seen c.loop-state.done.items) (map seen (into_iter_items c.next.new.self)) (seen c.in-Some.state) (ap (map seen) items) c.loop-state.invariant in
    let can : CanRun c.args.plan.now (seen c.in-Some.state) = next.0 in
    let deep : domains_from c.args.plan.now (seen c.in-Some.state) ≤ most_from c.args.plan.now (map seen c.args.states.items) = next.1 in
    search (rules, can, deep)

pub siblings::run_in_turn-loop-state-preserved : goal.siblings::run_in_turn-loop-state-preserved
siblings::run_in_turn-loop-state-preserved g t c =
    let seen = state_model g.F.Field.model g.P.Pass.model in
    let items : into_iter_items c.loop-state.state-iterator ≡ c.in-Some.state ∷ into_iter_items c.next.new.self = search rules in
    left_more c.args.plan.now (map seen c.args.states.items) (map seen (into_iter_items c.loop-state.state-iterator)) (map seen c.loop-state.done.items)
    (map seen (into_iter_items c.next.new.self)) (map seen c.push.new.self.items) (seen c.in-Some.state) (seen c.in_ok-back.back) (ap (map seen) items)
    (ap (map seen) c.in_ok-push.ensures.items ∙ map_push seen c.loop-state.done.items c.in_ok-back.back) c.in_ok-back.ensures c.loop-state.invariant

pub siblings::run_in_turn-returns : goal.siblings::run_in_turn-returns
siblings::run_in_turn-returns g t c =
    let seen = state_model g.F.Field.model g.P.Pass.model in
    let none : length (into_iter_items c.loop-state.state-iterator) ≡ 0 = search rules in
    left_none seen c.args.plan.now (map seen c.args.states.items) (map seen c.loop-state.done.items) (into_iter_items c.loop-state.state-iterator) none
    c.loop-state.invariant
