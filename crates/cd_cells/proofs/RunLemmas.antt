-- A run of one worker alone, at its start and at its end.
use Rattle.std.proofs.Common.{◌≡◌, ◌≤◌, [], ◌∷◌, refl, ap, sym, subst, ◌∙◌}
use Rattle.cd_field.specs.FieldModel.{FieldModel}
use Rattle.cd_keep.specs.PassModel.{PassModel}
use Rattle.cd_cover.specs.Plans.{PlanModel, IsPlan}
use Rattle.cd_core.specs.declared.ask.Ask.{Ask}
use Rattle.cd_core.specs.declared.state.NodeState.{NodeState}
use Rattle.cd_core.specs.declared.state.Outcome.{Outcome}
use Rattle.cd_core.specs.declared.state.Stage.TheVariants.{Ready}
use Rattle.cd_core.specs.Asks.{Answers, root_ask}
use Rattle.cd_core.specs.Running.{EndedRootsRan, RanTo, StartedRootsAnswer}
use Rattle.cd_core.specs.StateLaws.{CanStart}
use Rattle.cd_core.specs.StateModel.{StateModel, state_model}
use Rattle.cd_core.specs.Steps.{IsOutcome, root_state}
use Rattle.cd_core.proofs.Outcomes.{ran_by}
use Rattle.cd_cells.specs.declared.cell_pass.CellPass.{CellPass}
use Rattle.cd_cells.specs.declared.start.Start.{Start}
use Rattle.cd_cells.specs.Working.{RootEnded, Works, kind_of, plan_of, was_of}
use Rattle.cd_cells.specs.Passes.{PostsNext, key_of}
use Rattle.cd_cells.specs.States.{HasEnded, IsReady}
use Rattle.cd_cells.proofs.StatesLawful.{of_ask}

module _ {F P : Type 0} (field : F → FieldModel) (pass : P → PassModel) (cells : CellPass (Start F) (NodeState F P)) (plan : PlanModel) (machine : F)
    (same_plan : plan_of cells ≡ plan) (same_field : (key_of cells).field.value ≡ machine) where
  abbrev seen : NodeState F P → StateModel
  seen = state_model field pass

  -- the root's ask, by the table and by what it was opened for
  asked : root_ask plan (field machine).words ≡ root_ask (plan_of cells) (was_of field cells).words
  asked =
      ap (λ (p : PlanModel). root_ask p (field machine).words) (sym same_plan)
      ∙ ap (λ (m : F). root_ask (plan_of cells) (field m).words) (sym same_field)

  -- the root, as it is started, is the first to be posted
  pub root_posts : StartedRootsAnswer → (p : PassModel) (root : NodeState F P) → IsPlan plan → p.room ≤ p.most → CanStart plan (field machine) p
      → seen root ≡ root_state plan (field machine) p → Works field pass cells [] (root_ask plan (field machine).words ∷ [])
      → PostsNext (kind_of field pass) cells [] (root_ask (plan_of cells) (was_of field cells).words) [] 0 root
  root_posts law p root is_plan room can exact works =
      let R : PlanModel → F → Type 0 = λ q m. IsReady q (field m).script (field m).words (root_ask q (field m).words) (seen root) in
      let A : StateModel → Type 0 = λ s. Answers plan (field machine).script (field machine).words (root_ask plan (field machine).words) s in
      let stage : root.stage ≡ Ready = ap (λ (s : StateModel). s.stage) exact in
      let ready : R plan machine = (stage, subst A (sym exact) (law plan (field machine) p is_plan room can)) in
      let W : Ask → Type 0 = λ ask. Works field pass cells [] (ask ∷ []) in
      record {
        named = refl;
        ready = subst (λ (q : PlanModel). R q (key_of cells).field.value) (sym same_plan) (subst (λ (m : F). R plan m) (sym same_field) ready);
        now = subst W asked works;
      }

  -- the root that has ended, by what its table was opened for
  root_over : (root : NodeState F P) → RootEnded field pass cells root
      → HasEnded plan (field machine).script (field machine).words (root_ask plan (field machine).words) (seen root)
  root_over root over =
      let E : PlanModel → F → Type 0 = λ q m. HasEnded q (field m).script (field m).words (root_ask q (field m).words) (seen root) in
      subst (λ (m : F). E plan m) same_field (subst (λ (q : PlanModel). E q (key_of cells).field.value) same_plan over)

  pub root_first : (root : NodeState F P) → RootEnded field pass cells root → root.node.0 ≡ 0
  root_first root over =
      of_ask plan (field machine).script (field machine).words (root_ask plan (field machine).words) (seen root) (root_over root over).1

  pub run_ran : EndedRootsRan → (p : PassModel) (root : NodeState F P) (outcome : Outcome F) → IsPlan plan → CanStart plan (field machine) p
      → RootEnded field pass cells root → IsOutcome root outcome root.stage → RanTo field plan (field machine) outcome
  run_ran law p root outcome is_plan can over is =
      ran_by field plan (field machine) root outcome root.stage
      (λ ending ends. law plan (field machine) p (seen root) ending is_plan can (root_over root over).1 ends) is
