-- A worker at the cells, with the states of domains: what it has between its turns.
use Rattle.std.specs.Prelude.{◌≡◌, List, [], ◌∷◌, map}
use Rattle.cd_base.specs.Words.{Words}
use Rattle.cd_tree.specs.declared.document.Fault.{Fault}
use Rattle.cd_field.specs.FieldModel.{FieldModel}
use Rattle.cd_keep.specs.PassModel.{PassModel}
use Rattle.cd_cover.specs.Plans.{PlanModel}
use Rattle.cd_core.specs.declared.ask.Ask.{Ask}
use Rattle.cd_core.specs.declared.state.NodeState.{NodeState}
use Rattle.cd_core.specs.Asks.{Answers, root_ask}
use Rattle.cd_core.specs.StateLaws.{CanStart}
use Rattle.cd_core.specs.StateModel.{StateModel, state_model}
use Rattle.cd_core.specs.Steps.{CanMove}
use Rattle.cd_cells.specs.declared.cell_pass.CellPass.{CellPass}
use Rattle.cd_cells.specs.declared.start.Start.{Start}
use Rattle.cd_cells.specs.declared.view.Meeting.{Meeting}
use Rattle.cd_cells.specs.declared.view.Met.{Met}
use Rattle.cd_cells.specs.declared.work.Turn.{Turn}
use Rattle.cd_cells.specs.declared.work.Turn.TheVariants.{GoesOn, Free, Over}
use Rattle.cd_cells.specs.Arrivals.{EndedEach}
use Rattle.cd_cells.specs.Kinds.{Kind}
use Rattle.cd_cells.specs.Passes.{PassHas, SameTable, key_of, view_of}
use Rattle.cd_cells.specs.States.{HasEnded, IsReady, Rests, ask_of, group_of, states_of}

-- the states of domains, as a table has them that was opened for this
abbrev pub kind_of : {F P : Type 0} → (F → FieldModel) → (P → PassModel) → Start F → Kind (NodeState F P)
kind_of field pass start = states_of (state_model field pass) start.plan.value (field start.field.value).script (field start.field.value).words

-- the machine on which the root of a pass's table was started
abbrev pub was_of : {F P : Type 0} → (F → FieldModel) → CellPass (Start F) (NodeState F P) → FieldModel
was_of field cells = field (key_of cells).field.value

-- and the plan
abbrev pub plan_of : {F P : Type 0} → CellPass (Start F) (NodeState F P) → PlanModel
plan_of cells = (key_of cells).plan.value

-- its pass has these domains in hand, and may post those
abbrev pub Works : {F P : Type 0} → (F → FieldModel) → (P → PassModel) → CellPass (Start F) (NodeState F P) → List Ask → List Ask → Type 0
Works field pass cells hand may = PassHas (kind_of field pass) cells hand may

-- it has something in hand, or may post something, or neither: so it can stop
abbrev pub StillWorks : {F P : Type 0} → (F → FieldModel) → (P → PassModel) → CellPass (Start F) (NodeState F P) → Type 0
StillWorks field pass cells = (hand : List Ask) × (may : List Ask) × Works field pass cells hand may

-- it has a domain in hand that can go on
pub record CanGoOn {F P : Type 0} (field : F → FieldModel) (pass : P → PassModel) (cells : CellPass (Start F) (NodeState F P)) (state : NodeState F P) : Type 0 where
  pub ask : Ask
  pub works : Works field pass cells (ask ∷ []) []
  pub moves : CanMove state.stage
  pub answers : Answers (plan_of cells) (was_of field cells).script (was_of field cells).words ask (state_model field pass state)

-- these states are ready, each as a waiting state asks for it
abbrev pub EachReadyFor : {F P : Type 0} → (F → FieldModel) → (P → PassModel) → PlanModel → List Fault → Words → StateModel → List (NodeState F P) → Type 0
EachReadyFor field pass plan faults loaded s [] = Unit {0}
EachReadyFor field pass plan faults loaded s (child ∷ children) =
    IsReady plan faults loaded (ask_of plan s child.node.0) (state_model field pass child) × EachReadyFor field pass plan faults loaded s children

abbrev pub EachReady : {F P : Type 0} → (F → FieldModel) → (P → PassModel) → CellPass (Start F) (NodeState F P) → StateModel → List (NodeState F P) → Type 0
EachReady field pass cells s children = EachReadyFor field pass (plan_of cells) (was_of field cells).script (was_of field cells).words s children

-- what it asks of them
abbrev pub asked_of : {F P : Type 0} → PlanModel → StateModel → List (NodeState F P) → List Ask
asked_of plan s [] = []
asked_of plan s (child ∷ children) = ask_of plan s child.node.0 ∷ asked_of plan s children

-- it has one in hand that has come to a group, with these members, ready, each as it is asked for
pub record Sends {F P : Type 0} (field : F → FieldModel) (pass : P → PassModel) (cells : CellPass (Start F) (NodeState F P)) (state : NodeState F P)
    (children : List (NodeState F P)) : Type 0 where
  pub ask : Ask
  pub works : Works field pass cells (ask ∷ []) []
  pub rests : Rests (plan_of cells) (was_of field cells).script (was_of field cells).words ask (state_model field pass state)
  pub group : map (λ (child : NodeState F P). child.node.0) children ≡ group_of (plan_of cells) (state_model field pass state)
  pub ready : EachReady field pass cells (state_model field pass state) children

-- it has put a domain to rest, and these of its members are still to be sent
pub record SendsStill {F P : Type 0} (field : F → FieldModel) (pass : P → PassModel) (first now : CellPass (Start F) (NodeState F P)) (s : StateModel)
    (children : List (NodeState F P)) : Type 0 where
  pub same : SameTable first now
  pub works : Works field pass now [] (asked_of (plan_of first) s children)
  pub each : EachReady field pass first s children

-- it has one in hand that has ended
pub record Ends {F P : Type 0} (field : F → FieldModel) (pass : P → PassModel) (cells : CellPass (Start F) (NodeState F P)) (state : NodeState F P) : Type 0 where
  pub ask : Ask
  pub works : Works field pass cells (ask ∷ []) []
  pub ended : HasEnded (plan_of cells) (was_of field cells).script (was_of field cells).words ask (state_model field pass state)

-- a state waits for these members, which have ended, each as it asks
pub record WaitsFor {F P : Type 0} (field : F → FieldModel) (pass : P → PassModel) (plan : PlanModel) (faults : List Fault) (loaded : Words) (ask : Ask)
    (above : NodeState F P) (members : List (NodeState F P)) : Type 0 where
  pub rests : Rests plan faults loaded ask (state_model field pass above)
  pub ended : EndedEach (states_of (state_model field pass) plan faults loaded) above (group_of plan (state_model field pass above)) members

-- it can go on, behind them
pub record HasResumed {F P : Type 0} (field : F → FieldModel) (pass : P → PassModel) (plan : PlanModel) (faults : List Fault) (loaded : Words) (ask : Ask)
    (above : NodeState F P) : Type 0 where
  pub moves : CanMove above.stage
  pub answers : Answers plan faults loaded ask (state_model field pass above)

-- the root has ended, as its ask has it
abbrev pub RootEnded : {F P : Type 0} → (F → FieldModel) → (P → PassModel) → CellPass (Start F) (NodeState F P) → NodeState F P → Type 0
RootEnded field pass cells root =
    HasEnded (plan_of cells) (was_of field cells).script (was_of field cells).words (root_ask (plan_of cells) (was_of field cells).words) (state_model field pass root)

-- its last step was the root's arrival
abbrev pub RootIsHome : {F P : Type 0} → CellPass (Start F) (NodeState F P) → Type 0
RootIsHome cells = (before : List Met) × ((view_of cells).met ≡ record { by = Meeting.RootArrival; cell = 0; word = 1 } ∷ before)

-- what a turn comes to
abbrev pub TurnsTo : {F P : Type 0} → (F → FieldModel) → (P → PassModel) → CellPass (Start F) (NodeState F P) → Turn F P → Type 0
TurnsTo field pass cells (GoesOn state) = CanGoOn field pass cells state
TurnsTo field pass cells Free = Works field pass cells [] []
TurnsTo field pass cells Over = Works field pass cells [] [] × RootIsHome cells

-- a table was opened for a plan, and for a machine on which its root can be started with some pass of copies
pub record HasStarted {F : Type 0} (field : F → FieldModel) (plan : PlanModel) (start : Start F) : Type 0 where
  pub plan_is : start.plan.value ≡ plan
  pub pass : PassModel
  pub can : CanStart plan (field start.field.value) pass
