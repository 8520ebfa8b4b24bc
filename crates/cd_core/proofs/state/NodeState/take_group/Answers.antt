use Rattle.std.proofs.Common.{rules, Bool, map, subst, sym}
use Rattle.cd_core.specs.StateModel.{state_model}
use Rattle.cd_core.specs.Steps.{IsWaiting}
use Rattle.cd_core.specs.TakingBack.{CanTakeAll}
use Rattle.cd_core.proofs.TakesBack.{all_shown, resumes, waits_still}
use Rattle.cd_core.proofs.state.NodeState.take_group.Goals as goal

pub take_all-requires : goal.take_all-requires
take_all-requires g c =
    let C : Bool → Type 0 = λ b. CanTakeAll b (state_model g.F.Field.model g.P.Pass.model c.args.self.now) (map (state_model g.F.Field.model g.P.Pass.model) c.args.children.items) in
    let can : CanTakeAll c.none_escalated-commit.result (state_model g.F.Field.model g.P.Pass.model c.args.self.now)
    (map (state_model g.F.Field.model g.P.Pass.model) c.args.children.items) =
    subst C (sym (all_shown (state_model g.F.Field.model g.P.Pass.model) c.none_escalated-commit.result c.as_slice.result.now c.args.children.items
    c.none_escalated-commit.ensures c.as_slice.ensures.value)) c.requires.can in
    search (rules, can)

pub settle-requires : goal.settle-requires
settle-requires g c =
    let waits : IsWaiting c.take_all.new.self.stage =
    waits_still c.none_escalated-commit.result (state_model g.F.Field.model g.P.Pass.model c.args.self.now)
    (state_model g.F.Field.model g.P.Pass.model c.take_all.new.self) (map (state_model g.F.Field.model g.P.Pass.model) c.args.children.items)
    c.in_ok-lost.ensures.taken c.requires.waits in
    search (rules, waits)

pub returns : goal.returns
returns g c =
    resumes (state_model g.F.Field.model g.P.Pass.model c.args.self.now)
    (state_model g.F.Field.model g.P.Pass.model c.take_all.new.self) (state_model g.F.Field.model g.P.Pass.model c.settle.new.self) c.args.domain.now
    (map (state_model g.F.Field.model g.P.Pass.model) c.args.children.items) c.none_escalated-commit.result c.in_ok-lost.lost c.requires.waits
    (all_shown (state_model g.F.Field.model g.P.Pass.model) c.none_escalated-commit.result c.as_slice.result.now c.args.children.items
    c.none_escalated-commit.ensures c.as_slice.ensures.value)
    c.in_ok-lost.ensures.taken c.in_ok-lost.ensures.lost c.settle.ensures
