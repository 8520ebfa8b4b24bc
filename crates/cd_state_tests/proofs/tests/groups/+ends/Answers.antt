use Rattle.std.proofs.Common.{◌≡◌, ◌+◌, [], ◌∷◌, ◌++◌, ◌∙◌, length, map, ap, sym}
use Rattle.std.proofs.lemmas.List.{map_push}
use Rattle.std.specs.Vec.Iter.{into_iter_items, into_iter_len}
use Rattle.cd_core.specs.declared.state.NodeState.{NodeState}
use Rattle.cd_core.specs.StateModel.{StateModel, state_model}
use Rattle.cd_state_tests.proofs.GroupLemmas.{all_came, none_left, one_came, one_left, taken_so, takes_back}
use Rattle.cd_state_tests.proofs.tests.groups.+ends.Goals as goal

pub all_end-loop-member-preserved : goal.all_end-loop-member-preserved
all_end-loop-member-preserved g t c =
    let seen : NodeState _ _ → StateModel = state_model g.F.Field.model g.P.Pass.model in
    let items : into_iter_items c.loop-member.member-iterator ≡ c.in-Some.member ∷ into_iter_items c.next.new.self = c.in-Some.ensures.steps.0 in
    let gone : into_iter_len c.next.new.self + 1 ≡ into_iter_len c.loop-member.member-iterator = c.in-Some.ensures.steps.1 in
    let was : into_iter_len c.loop-member.member-iterator ≡ length (into_iter_items c.loop-member.member-iterator) = c.loop-member.invariant.1 in
    let grown : c.push.new.self.items ≡ c.loop-member.children.items ++ c.in_ok-child.child ∷ [] = c.in_ok-push.ensures.items in (
      one_came c.args.plan.now (map seen c.args.sent.items) (map seen (into_iter_items c.loop-member.member-iterator))
          (map seen (into_iter_items c.next.new.self)) (map seen c.loop-member.children.items) (map seen c.push.new.self.items)
          (seen c.in-Some.member) (seen c.in_ok-child.child) (ap (map seen) items)
          (ap (map seen) grown ∙ map_push seen c.loop-member.children.items c.in_ok-child.child) c.in_ok-child.ensures c.loop-member.invariant.0,
      one_left c.in-Some.member (into_iter_items c.loop-member.member-iterator) (into_iter_items c.next.new.self)
          (into_iter_len c.loop-member.member-iterator) (into_iter_len c.next.new.self) items gone was,
    )

pub all_end-returns : goal.all_end-returns
all_end-returns g t c =
    let seen : NodeState _ _ → StateModel = state_model g.F.Field.model g.P.Pass.model in
    let items : into_iter_items c.loop-member.member-iterator ≡ [] =
    none_left (into_iter_items c.loop-member.member-iterator) (sym c.loop-member.invariant.1 ∙ c.in-None.ensures.steps.0) in
    all_came c.args.plan.now (map seen c.args.sent.items) (map seen (into_iter_items c.loop-member.member-iterator))
    (map seen c.loop-member.children.items) (ap (map seen) items) c.loop-member.invariant.0

pub takes-take_back-requires-clause-back : goal.takes-take_back-requires-clause-back
takes-take_back-requires-clause-back g t c κs within =
    takes_back c.members_come_back.ensures.takes c.args.plan.now (state_model g.F.Field.model g.P.Pass.model c.args.state.now)
    (map (state_model g.F.Field.model g.P.Pass.model) c.args.sent.items)
    (map (state_model g.F.Field.model g.P.Pass.model) c.in_ok-children.children.items)
    c.requires.sent c.requires.fits c.in_ok-children.ensures

pub takes-returns : goal.takes-returns
takes-returns g t c =
    taken_so c.members_come_back.ensures.answers c.args.plan.now (state_model g.F.Field.model g.P.Pass.model c.args.state.now)
    (state_model g.F.Field.model g.P.Pass.model c.take_back.new.state)
    (map (state_model g.F.Field.model g.P.Pass.model) c.args.sent.items)
    (map (state_model g.F.Field.model g.P.Pass.model) c.in_ok-children.children.items)
    c.in_ok-children.ensures c.in_ok-take_back.ensures
