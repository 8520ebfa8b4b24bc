use Rattle.std.proofs.Common.{rules, ◌≡◌, ◌<◌, MatchOption, Some, length, slice_get, refl, sym, subst}
use Rattle.cd_tree.specs.declared.domain.NodeId.{NodeId}
use Rattle.cd_tree.specs.TreeModel.{TreeModel}
use Rattle.cd_cover.specs.Plans.{PlanModel}
use Rattle.cd_core.specs.StateModel.{state_model}
use Rattle.cd_cells.specs.Working.{plan_of, was_of}
use Rattle.cd_cells.specs.States.{parent_of}
use Rattle.cd_cells.proofs.SendLemmas.{domain_below}
use Rattle.cd_cells.proofs.StatesLawful.{of_ask}
use Rattle.cd_cells.proofs.TurnLemmas.{goes_so, parent_so, waits_so}
use Rattle.cd_cells.proofs.work.come_back.Goals as goal

pub siblings_of-siblings-requires : goal.siblings_of-siblings-requires
siblings_of-siblings-requires g c =
    let n = c.args.state.node.0 in
    subst (λ (p : PlanModel). n < length p.tree.domains) c.requires.plan
    (domain_below (plan_of c.args.cells.now) (was_of g.F.Field.model c.args.cells.now).script (was_of g.F.Field.model c.args.cells.now).words c.requires.ends.ask
    (state_model g.F.Field.model g.P.Pass.model c.args.state) c.requires.ends.ended.1)

pub node-requires : goal.node-requires
node-requires g c =
    let n = c.args.state.node.0 in
    let below : n < length c.args.plan.now.tree.domains =
    subst (λ (p : PlanModel). n < length p.tree.domains) c.requires.plan
    (domain_below (plan_of c.args.cells.now) (was_of g.F.Field.model c.args.cells.now).script (was_of g.F.Field.model c.args.cells.now).words c.requires.ends.ask
    (state_model g.F.Field.model g.P.Pass.model c.args.state) c.requires.ends.ended.1) in
    subst (λ (t : TreeModel). n < length t.domains) (sym c.tree.ensures.value) below

pub arrive-requires-clause-below : goal.arrive-requires-clause-below
arrive-requires-clause-below g c =
    domain_below (plan_of c.args.cells.now) (was_of g.F.Field.model c.args.cells.now).script (was_of g.F.Field.model c.args.cells.now).words c.requires.ends.ask
    (state_model g.F.Field.model g.P.Pass.model c.args.state) c.requires.ends.ended.1

pub arrive-requires-clause-parent : goal.arrive-requires-clause-parent
arrive-requires-clause-parent g c =
    let n = c.args.state.node.0 in
    let listed : slice_get c.args.plan.now.tree.domains n ≡ Some c.node.result.now = search rules in
    subst (λ (p : PlanModel). MatchOption c.node.result.now.parent (n ≡ 0) (λ (above : NodeId). (0 < n) × (above.0 ≡ parent_of p n))) (sym c.requires.plan)
    (parent_so c.children_stand_once.ensures.children c.args.plan.now n c.node.result.now c.node.result.now.parent c.is_settled.ensures listed refl)

pub arrive-requires-clause-ended : goal.arrive-requires-clause-ended
arrive-requires-clause-ended g c =
    let e = c.requires.ends in (
      e.ask,
      record {
        named = sym (of_ask (plan_of c.args.cells.now) (was_of g.F.Field.model c.args.cells.now).script (was_of g.F.Field.model c.args.cells.now).words e.ask
            (state_model g.F.Field.model g.P.Pass.model c.args.state) e.ended.1);
        ended = e.ended;
        now = e.works;
      },
    )

pub returns-in_ok-take_members-in-Last-clause-next : goal.returns-in_ok-take_members-in-Last-clause-next
returns-in_ok-take_members-in-Last-clause-next g c =
    let home = c.in-Last.ensures.home in
    let w = waits_so g.F.Field.model g.P.Pass.model c.args.cells.now c.args.plan.now home.ask c.in-Last.above c.in-Last.members.items c.requires.plan home.waits home.ended in
    goes_so g.F.Field.model g.P.Pass.model c.args.cells.now c.args.plan.now c.arrive.new.self home.ask c.take_members.new.above c.requires.plan c.arrive.ensures.same.key home.now
    (c.in_ok-take_members-in-Last.ensures (was_of g.F.Field.model c.args.cells.now).script (was_of g.F.Field.model c.args.cells.now).words home.ask w)
