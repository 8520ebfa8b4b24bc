use Rattle.std.proofs.Common.{◌≡◌, map, slice_get}
use Rattle.cd_base.proofs.ListLemmas.{some_and}
use Rattle.cd_tree.specs.declared.domain.Domain.{Domain}
use Rattle.cd_core.specs.Advancing.{members_at}
use Rattle.cd_core.specs.Asks.{task_of}
use Rattle.cd_core.specs.Resuming.{nodes_of}
use Rattle.cd_core.specs.StateModel.{state_model}
use Rattle.cd_core.specs.Steps.{waits_at}
use Rattle.cd_cells.proofs.TurnLemmas.{answers_on, members_answer, taken_back}
use Rattle.cd_cells.proofs.work.take_members.Goals as goal

pub resume-requires-clause-members : goal.resume-requires-clause-members
resume-requires-clause-members g c κs within =
    let seen = state_model g.F.Field.model g.P.Pass.model in
    let r = c.requires in
    let back = taken_back c.arrived_members_can_be_taken.ensures c.the_nested_view_follows_the_list.ensures g.F.Field.model g.P.Pass.model c.args.plan.now
    r.0 r.1 r.2 c.args.above.now c.args.members.items c.is_settled.ensures r.3 in
    some_and (slice_get c.args.plan.now.tree.domains c.args.above.now.node.0)
    (λ (domain : Domain). nodes_of (map seen c.args.members.items) ≡ members_at domain (waits_at c.args.above.now.stage)) back.domain back.is back.members

pub resume-requires-clause-takes : goal.resume-requires-clause-takes
resume-requires-clause-takes g c κs within =
    let r = c.requires in
    (taken_back c.arrived_members_can_be_taken.ensures c.the_nested_view_follows_the_list.ensures g.F.Field.model g.P.Pass.model c.args.plan.now
    r.0 r.1 r.2 c.args.above.now c.args.members.items c.is_settled.ensures r.3).takes

pub returns : goal.returns
returns g c = λ faults loaded ask w. (
    let seen = state_model g.F.Field.model g.P.Pass.model in
    let a = w.rests.1 in
    record {
      moves = c.in_ok-resume.ensures.moves;
      answers = answers_on c.args.plan.now faults loaded ask (seen c.args.above.now) (seen c.resume.new.self) c.in_ok-resume.ensures.stays a
          (c.in_ok-resume.ensures.stands (task_of c.args.plan.now faults loaded ask a.domain) a.stands
          (members_answer g.F.Field.model g.P.Pass.model c.args.plan.now faults loaded ask c.args.above.now c.args.members.items w));
    }
    )
