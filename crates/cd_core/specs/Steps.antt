-- The answers of the calls on states, as contracts see them.
use Rattle.std.specs.Prelude.{◌≡◌, ℕ, List, [], ◌∷◌, None, Some, map, slice_get}
use Rattle.cd_base.specs.Words.{Words}
use Rattle.cd_tree.specs.declared.domain.Domain.{Domain}
use Rattle.cd_tree.specs.declared.document.Fault.{Fault}
use Rattle.cd_tree.specs.declared.event.Cause.{Cause}
use Rattle.cd_tree.specs.Domains.{Node, node_of, root_of}
use Rattle.cd_tree.specs.Reading.{no_begins}
use Rattle.cd_field.specs.FieldModel.{FieldModel}
use Rattle.cd_keep.specs.PassModel.{PassModel}
use Rattle.cd_cover.specs.Plans.{PlanModel}
use Rattle.cd_tries.specs.declared.keep.Keep.{Keep}
use Rattle.cd_core.specs.declared.state.Ending.{Ending}
use Rattle.cd_core.specs.declared.state.Ending.TheVariants as end
use Rattle.cd_core.specs.declared.state.Stage.{Stage}
use Rattle.cd_core.specs.declared.state.Stage.TheVariants as stage
use Rattle.cd_core.specs.declared.state.NodeState.{NodeState}
use Rattle.cd_core.specs.declared.state.Step.{Step}
use Rattle.cd_core.specs.declared.state.Step.TheVariants.{Group, Done, Escalated, NoMemory}
use Rattle.cd_core.specs.declared.state.Outcome.{Outcome}
use Rattle.cd_core.specs.declared.state.Outcome.TheVariants.{Committed, Exhausted}
use Rattle.cd_core.specs.StateModel.{StateModel, state_model}
use Rattle.cd_core.specs.Fits.{Fits}
use Rattle.cd_core.specs.Tasks.{Task}
use Rattle.cd_core.specs.Stands.{Stands}
use Rattle.cd_core.specs.Asks.{EachAnswers}
use Rattle.cd_core.specs.Advancing.{Judged, TriesSo, state_behind, state_sending, all_sent, members_at}
use Rattle.cd_core.specs.declared.verdict.Verdict.{Verdict}
use Rattle.cd_core.specs.declared.verdict.Verdict.TheVariants.{Waits, Completes, Escalates}

-- neither ended nor waiting
abbrev pub CanMove : Stage → Type 0
CanMove stage.Ready = Unit {0}
CanMove (stage.Waiting spare point) = ⊥
CanMove (stage.Resumed spare point) = Unit {0}
CanMove (stage.Lost spare cause over) = Unit {0}
CanMove (stage.Ended ending) = ⊥

-- a step, with the states that it hands out
pub data StepModel : Type 0 where
  sends : (children : List StateModel) → StepModel
  ends_done : StepModel
  ends_escalated : StepModel
  no_memory : StepModel

abbrev pub step_model : {F P : Type 0} → (F → FieldModel) → (P → PassModel) → Step F P → StepModel
step_model field pass (Group children) = sends (map (state_model field pass) children.items)
step_model field pass Done = ends_done
step_model field pass Escalated = ends_escalated
step_model field pass NoMemory = no_memory

-- ---- exactly

-- the step is that of the verdict, and the children are those that are sent
abbrev pub StepIs : PlanModel → Domain → StateModel → Verdict → StepModel → Type 0
StepIs plan domain sending (Waits spare point) (sends children) =
    children ≡ all_sent plan sending (members_at domain point) sending.field sending.pass
StepIs plan domain sending (Waits spare point) ends_done = ⊥
StepIs plan domain sending (Waits spare point) ends_escalated = ⊥
StepIs plan domain sending (Waits spare point) no_memory = Unit {0}
StepIs plan domain sending (Completes leak) (sends children) = ⊥
StepIs plan domain sending (Completes leak) ends_done = Unit {0}
StepIs plan domain sending (Completes leak) ends_escalated = ⊥
StepIs plan domain sending (Completes leak) no_memory = Unit {0}
StepIs plan domain sending (Escalates cause over) (sends children) = ⊥
StepIs plan domain sending (Escalates cause over) ends_done = ⊥
StepIs plan domain sending (Escalates cause over) ends_escalated = Unit {0}
StepIs plan domain sending (Escalates cause over) no_memory = Unit {0}

-- what a step came from: the domain's tries, and what they came to
pub record AdvancesBy (plan : PlanModel) (old new : StateModel) (step : StepModel) : Type 0 where
  pub domain : Domain
  pub is : slice_get plan.tree.domains old.node.0 ≡ Some domain
  pub keeps : List Keep
  pub pass : PassModel
  pub judged : Judged
  pub tried : TriesSo plan domain old keeps pass judged old.stage
  pub behind : new ≡ state_behind plan domain old keeps pass judged.begin judged.field judged.verdict
  pub answer : StepIs plan domain (state_sending old keeps judged.begin judged.field pass) judged.verdict step

-- after want of memory nothing is said
abbrev pub Advances : PlanModel → StateModel → StateModel → StepModel → Type 0
Advances plan old new (sends children) = AdvancesBy plan old new (sends children)
Advances plan old new ends_done = AdvancesBy plan old new ends_done
Advances plan old new ends_escalated = AdvancesBy plan old new ends_escalated
Advances plan old new no_memory = Unit {0}

-- ---- what holds behind

abbrev pub AllFit : PlanModel → List StateModel → Type 0
AllFit plan [] = Unit {0}
AllFit plan (s ∷ states) = Fits plan s × AllFit plan states

abbrev pub FitsBehind : PlanModel → StateModel → StepModel → Type 0
FitsBehind plan new (sends children) = Fits plan new × AllFit plan children
FitsBehind plan new ends_done = Fits plan new
FitsBehind plan new ends_escalated = Fits plan new
FitsBehind plan new no_memory = Unit {0}

-- it stands behind the step, and each state handed out answers what is asked of its member
abbrev pub StandsBehind : PlanModel → Task → StateModel → StepModel → Type 0
StandsBehind plan t new (sends children) = Stands plan t new × EachAnswers plan t.faults t.loaded new children
StandsBehind plan t new ends_done = Stands plan t new
StandsBehind plan t new ends_escalated = Stands plan t new
StandsBehind plan t new no_memory = Unit {0}

-- ---- the root

abbrev pub root_state : PlanModel → FieldModel → PassModel → StateModel
root_state plan m p = record {
  node = record { 0 = 0 };
  counts = map (λ domain. 0) plan.tree.domains;
  stage = stage.Ready;
  keeps = [];
  above = [];
  field = m;
  pass = p;
}

-- what the root is sent with: the words of its machine, and nothing begun
abbrev pub root_task : PlanModel → FieldModel → Task
root_task plan m = record {
  domain = root_of plan.tree.domains;
  faults = m.script;
  loaded = m.words;
  words = m.words;
  counts = no_begins;
  links = λ reference p. None;
}

-- ---- the outcome

-- the outcome of the root's ending
abbrev pub IsOutcome : {F P : Type 0} → NodeState F P → Outcome F → Stage → Type 0
IsOutcome s (Committed field begins) (stage.Ended (end.Done leak)) = (field ≡ s.field) × (begins ≡ s.counts.items)
IsOutcome s (Exhausted field begins cause) (stage.Ended (end.Escalated why over)) =
    (field ≡ s.field) × (begins ≡ s.counts.items) × (cause ≡ why)
IsOutcome s _ _ = ⊥

abbrev pub IsEnded : Stage → Type 0
IsEnded stage.Ready = ⊥
IsEnded (stage.Waiting spare point) = ⊥
IsEnded (stage.Resumed spare point) = ⊥
IsEnded (stage.Lost spare cause over) = ⊥
IsEnded (stage.Ended ending) = Unit {0}

abbrev pub IsWaiting : Stage → Type 0
IsWaiting stage.Ready = ⊥
IsWaiting (stage.Waiting spare point) = Unit {0}
IsWaiting (stage.Resumed spare point) = ⊥
IsWaiting (stage.Lost spare cause over) = ⊥
IsWaiting (stage.Ended ending) = ⊥

-- the point at which a state waits
abbrev pub waits_at : Stage → ℕ
waits_at stage.Ready = 0
waits_at (stage.Waiting spare point) = point
waits_at (stage.Resumed spare point) = 0
waits_at (stage.Lost spare cause over) = 0
waits_at (stage.Ended ending) = 0
