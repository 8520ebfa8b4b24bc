-- The outcome of a root that came back as its ending.
use Rattle.std.proofs.Common.{◌≡◌, List, Option, Some, ap, sym, subst, ◌∙◌}
use Rattle.cd_base.specs.declared.place.Range.{Range}
use Rattle.cd_base.specs.Words.{in_ranges}
use Rattle.cd_tree.specs.declared.domain.NodeId.{NodeId}
use Rattle.cd_tree.specs.Domains.{Node, node, node_of, root_of}
use Rattle.cd_tree.proofs.EachDomain.{root_there}
use Rattle.cd_field.specs.FieldModel.{FieldModel}
use Rattle.cd_keep.specs.PassModel.{PassModel}
use Rattle.cd_cover.specs.Plans.{PlanModel, IsPlan}
use Rattle.cd_core.specs.declared.state.Ending.{Ending}
use Rattle.cd_core.specs.declared.state.NodeState.{NodeState}
use Rattle.cd_core.specs.declared.state.Outcome.{Outcome}
use Rattle.cd_core.specs.declared.state.Stage.{Stage}
use Rattle.cd_core.specs.declared.state.Stage.TheVariants.{Ended}
use Rattle.cd_core.specs.Fits.{Fits, FitsEnded, FitsStage, IsHere}
use Rattle.cd_core.specs.Returning.{CameBack}
use Rattle.cd_core.specs.Running.{Ran, RanTo}
use Rattle.cd_core.specs.Stands.{Stands, StandsArrived, StandsAt}
use Rattle.cd_core.specs.StateModel.{StateModel, state_model}
use Rattle.cd_core.specs.Steps.{CanMove, IsOutcome, root_state, root_task}
use Rattle.cd_core.specs.Tasks.{Task}
use Rattle.cd_core.proofs.Outcomes.{ran_by}
use Rattle.cd_core.proofs.Roots.{here_at_end}
use Rattle.cd_fork.specs.Onward.{CanRun}

module _ (plan : PlanModel) (was : FieldModel) (p : PassModel) (s : StateModel) (is_plan : IsPlan plan)
    (stood : Stands plan (root_task plan was) (root_state plan was p)) (came : CameBack plan (root_state plan was p) s) where
  abbrev t : Task
  t = root_task plan was

  abbrev own : Node
  own = node s.node came.fits.domain came.fits.body

  own_is_root : own ≡ root_of plan.tree.domains
  own_is_root =
      let both : ◌≡◌ {A = Option Node} (Some own) (Some (root_of plan.tree.domains)) =
      sym came.fits.is ∙ ap (λ (id : NodeId). node_of plan.tree.domains id) came.stays.node ∙ root_there plan.tree.domains is_plan.program.some in
      cc

  has_ended : (ending : Ending) → s.stage ≡ Ended ending → Ran plan was s.field s.counts ending
  has_ended ending is =
      let A : Stage → Type 0 = λ stage. StandsAt plan t s stage in
      let E : Stage → Type 0 = λ stage. FitsStage plan own came.fits.domain s stage in
      let H : Node → Type 0 = λ d. IsHere d s.field in
      let arrived : StandsArrived plan t s ending = subst A is (came.stands t stood).stage in
      let ended : FitsEnded plan own s ending = subst E is came.fits.stage in
      record {
        legal = arrived.legal;
        counts = arrived.counts;
        ends = arrived.ends;
        notes = arrived.notes;
        here = subst H own_is_root (here_at_end plan own s ending (ap (λ (id : NodeId). id.0) came.stays.node) ended.present);
        sound = arrived.sound;
        script = came.stays.script;
        carved = λ q. ap (λ (ranges : List Range). in_ranges ranges q) came.stays.carved;
      }

-- a root that was run from its start to its end
pub record RanRoot {F P : Type 0} (field : F → FieldModel) (pass : P → PassModel) (plan : PlanModel) (was : FieldModel) (p : PassModel) (s : NodeState F P) : Type 0 where
  pub is_plan : IsPlan plan
  pub stood : Stands plan (root_task plan was) (root_state plan was p)
  pub came : CameBack plan (root_state plan was p) (state_model field pass s)

pub has_run : {F P : Type 0} (field : F → FieldModel) (pass : P → PassModel) (plan : PlanModel) (was : FieldModel) (p : PassModel) (first : StateModel)
    (s : NodeState F P) → IsPlan plan → first ≡ root_state plan was p → Stands plan (root_task plan was) first
    → CameBack plan first (state_model field pass s) → RanRoot field pass plan was p s
has_run {F} {P} field pass plan was p first s is_plan is stood came =
    let S : StateModel → Type 0 = λ x. Stands plan (root_task plan was) x in
    let C : StateModel → Type 0 = λ x. CameBack plan x (state_model field pass s) in
    record { is_plan = is_plan; stood = subst S is stood; came = subst C is came }

-- the root as it is started can be run
pub root_can_run : (plan : PlanModel) (was : FieldModel) (p : PassModel) (first : StateModel) → first ≡ root_state plan was p → Fits plan first
    → CanRun plan first
root_can_run plan was p first is fits =
    record { fits = fits; moves = subst CanMove (sym (ap (λ (s : StateModel). s.stage) is)) tt }

-- and what came back is the root
pub root_came_back : (plan : PlanModel) (was : FieldModel) (p : PassModel) (first s : StateModel) → first ≡ root_state plan was p → CameBack plan first s
    → s.node.0 ≡ 0
root_came_back plan was p first s is came =
    ap (λ (id : NodeId). id.0) came.stays.node ∙ ap (λ (x : StateModel). x.node.0) is

pub ran_to : {F P : Type 0} (field : F → FieldModel) (pass : P → PassModel) (plan : PlanModel) (was : FieldModel) (p : PassModel) (s : NodeState F P)
    (outcome : Outcome F) → RanRoot field pass plan was p s → IsOutcome s outcome s.stage → RanTo field plan was outcome
ran_to {F} {P} field pass plan was p s outcome r is =
    ran_by field plan was s outcome s.stage (has_ended plan was p (state_model field pass s) r.is_plan r.stood r.came) is
