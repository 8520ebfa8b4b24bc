-- What stays when members are taken back, and how far the domain still goes: no farther than before, and it can move.
use Rattle.std.proofs.Common.{◌≡◌, ℕ, suc, ◌+◌, ◌-◌, ◌*◌, ◌≤◌, List, Option, None, Some, length, slice_get, refl, subst, sym, arith}
use Rattle.std.specs.Option.{option_map_or}
use Rattle.cd_tree.specs.declared.domain.Domain.{Domain}
use Rattle.cd_tree.specs.declared.event.Cause.{Cause}
use Rattle.cd_cover.specs.Plans.{PlanModel}
use Rattle.cd_core.specs.declared.state.Stage.{Stage}
use Rattle.cd_core.specs.declared.state.Stage.TheVariants.{Ready, Waiting, Resumed, Lost, Ended}
use Rattle.cd_core.specs.StateModel.{StateModel}
use Rattle.cd_core.specs.Resuming.{absorbed_all, all_done, first_escalation, joined_all, resumed, resumed_at, stage_behind}
use Rattle.cd_core.specs.Returning.{Stays, left_in, points_left}
use Rattle.cd_core.specs.Steps.{CanMove, IsWaiting}
use Rattle.cd_core.proofs.AfterTaking.{KeepsSo, StaysSo, all_joined, all_stays}
use Rattle.cd_core.proofs.TakenBack.{rooms}

-- what stays, that no more points are left, and that it can move
pub record LeftBehind (plan : PlanModel) (s new : StateModel) : Type 0 where
  pub stays : Stays s new
  pub onward : left_in plan new ≤ left_in plan s
  pub moves : CanMove new.stage

can_move : (detects spare point : ℕ) (lost : Option (Cause × ℕ)) → CanMove (stage_behind detects spare point lost)
can_move detects spare point None = tt
can_move detects spare point (Some (cause, over)) = tt

fewer_left : (domain : Domain) (detects spare point : ℕ) (lost : Option (Cause × ℕ))
    → points_left domain (stage_behind detects spare point lost) ≤ points_left domain (Waiting spare point)
fewer_left domain detects spare point None = omega arith
fewer_left domain detects spare point (Some (cause, over)) =
    let whole : ℕ = spare * suc (length domain.items) in
    let more : ℕ = length domain.items - point in
    let fewer : whole ≤ whole + more = omega arith in
    fewer

fewer_in : (listed : Option Domain) (one other : Stage) → ((domain : Domain) → points_left domain one ≤ points_left domain other)
    → option_map_or (λ (domain : Domain). points_left domain one) listed 0 ≤ option_map_or (λ (domain : Domain). points_left domain other) listed 0
fewer_in None one other fewer = omega arith
fewer_in (Some domain) one other fewer = fewer domain

-- with its stage apart
left_at : (plan : PlanModel) (s : StateModel) (domain : Domain) (children : List StateModel) (stage : Stage) → IsWaiting stage
    → Stays s (resumed_at s domain children stage) × CanMove (resumed_at s domain children stage).stage
    × (option_map_or (λ (d : Domain). points_left d (resumed_at s domain children stage).stage)
    (slice_get plan.tree.domains (resumed_at s domain children stage).node.0) 0
    ≤ option_map_or (λ (d : Domain). points_left d stage) (slice_get plan.tree.domains s.node.0) 0)
left_at plan s domain children Ready waits = absurd waits
left_at plan s domain children (Waiting spare point) waits =
    let lost : Option (Cause × ℕ) = first_escalation children in
    let m : StaysSo s.field (absorbed_all (all_done lost) children s.field) = all_stays (all_done lost) children s.field in
    let k : KeepsSo s.pass (joined_all children s.pass) (rooms children) = all_joined children s.pass in (
      record { node = refl; above = refl; script = m.script; carved = m.carved; store = k.store; most = k.most },
      can_move domain.detects spare point lost,
      fewer_in (slice_get plan.tree.domains s.node.0) (stage_behind domain.detects spare point lost) (Waiting spare point)
          (λ d. fewer_left d domain.detects spare point lost),
    )
left_at plan s domain children (Resumed spare point) waits = absurd waits
left_at plan s domain children (Lost spare cause over) waits = absurd waits
left_at plan s domain children (Ended ending) waits = absurd waits

pub left_behind : (plan : PlanModel) (s new : StateModel) (domain : Domain) (children : List StateModel) → IsWaiting s.stage
    → new ≡ resumed s domain children → LeftBehind plan s new
left_behind plan s new domain children waits is =
    let L : StateModel → Type 0 = λ x. LeftBehind plan s x in
    let all : Stays s (resumed s domain children) × CanMove (resumed s domain children).stage × (left_in plan (resumed s domain children) ≤ left_in plan s) =
    left_at plan s domain children s.stage waits in
    subst L (sym is) (record { stays = all.0; onward = all.2; moves = all.1 })
