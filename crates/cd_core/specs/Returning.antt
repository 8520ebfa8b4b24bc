-- What stays through the calls on a domain's state, how it goes on, and what members are when they come back: all that an
-- engine needs to take a domain to its end.
use Rattle.std.specs.Prelude.{◌≡◌, ℕ, suc, ◌+◌, ◌-◌, ◌*◌, ◌<◌, ◌≤◌, List, [], ◌∷◌, length, slice_get, Some}
use Rattle.std.specs.Option.{option_map_or}
use Rattle.cd_base.specs.Words.{Words}
use Rattle.cd_tree.specs.declared.document.Fault.{Fault}
use Rattle.cd_tree.specs.declared.domain.Domain.{Domain}
use Rattle.cd_cover.specs.Plans.{PlanModel, IsPlan}
use Rattle.cd_core.specs.declared.state.Stage.{Stage}
use Rattle.cd_core.specs.declared.state.Stage.TheVariants.{Ready, Waiting, Resumed, Lost, Ended}
use Rattle.cd_core.specs.StateModel.{StateModel}
use Rattle.cd_core.specs.Asks.{EachAnswers}
use Rattle.cd_core.specs.Advancing.{members_at}
use Rattle.cd_core.specs.Fits.{Fits}
use Rattle.cd_core.specs.Resuming.{nodes_of}
use Rattle.cd_core.specs.Stands.{Stands}
use Rattle.cd_core.specs.StateLaws.{TakesBack}
use Rattle.cd_core.specs.Steps.{StepModel, sends, ends_done, ends_escalated, no_memory, Advances, IsEnded, IsWaiting, waits_at}
use Rattle.cd_core.specs.Tasks.{Task}

-- ---- what stays

-- the domain, what is kept above it, the script and the carved writes of its machine, the store and the opening of its pass
pub record Stays (old new : StateModel) : Type 0 where
  pub node : new.node ≡ old.node
  pub above : new.above ≡ old.above
  pub script : new.field.script ≡ old.field.script
  pub carved : new.field.carved ≡ old.field.carved
  pub store : new.pass.store ≡ old.pass.store
  pub most : new.pass.most ≡ old.pass.most

-- after want of memory nothing is said
abbrev pub StaysBehind : StateModel → StateModel → StepModel → Type 0
StaysBehind old new (sends children) = Stays old new
StaysBehind old new ends_done = Stays old new
StaysBehind old new ends_escalated = Stays old new
StaysBehind old new no_memory = Unit {0}

-- ---- going on

-- how many points are left at most, in this try and in those to spare
abbrev pub points_left : Domain → Stage → ℕ
points_left domain Ready = domain.retry * suc (length domain.items)
points_left domain (Waiting spare point) = spare * suc (length domain.items) + (length domain.items - point)
points_left domain (Resumed spare point) = spare * suc (length domain.items) + (length domain.items - point)
points_left domain (Lost spare cause over) = spare * suc (length domain.items)
points_left domain (Ended ending) = 0

abbrev pub left_in : PlanModel → StateModel → ℕ
left_in plan s = option_map_or (λ (domain : Domain). points_left domain s.stage) (slice_get plan.tree.domains s.node.0) 0

-- at a group it waits, with fewer points left than before; else it has ended
abbrev pub GoesOn : PlanModel → StateModel → StateModel → StepModel → Type 0
GoesOn plan old new (sends children) = IsWaiting new.stage × (left_in plan new < left_in plan old)
GoesOn plan old new ends_done = IsEnded new.stage
GoesOn plan old new ends_escalated = IsEnded new.stage
GoesOn plan old new no_memory = Unit {0}

-- ---- coming back

-- a domain that was run from one state to another: it has ended, and stands wherever it stood
pub record CameBack (plan : PlanModel) (sent child : StateModel) : Type 0 where
  pub fits : Fits plan child
  pub ended : IsEnded child.stage
  pub stays : Stays sent child
  pub stands : (t : Task) → Stands plan t sent → Stands plan t child

-- each of these, in order, came back from where it was sent
abbrev pub EachCameBack : PlanModel → List StateModel → List StateModel → Type 0
EachCameBack plan [] [] = Unit {0}
EachCameBack plan [] (child ∷ children) = ⊥
EachCameBack plan (one ∷ sent) [] = ⊥
EachCameBack plan (one ∷ sent) (child ∷ children) = CameBack plan one child × EachCameBack plan sent children

-- ---- laws

-- what an advance leaves stays, and goes on
abbrev pub AdvancingStays : Type 0
AdvancingStays =
    (plan : PlanModel) (old new : StateModel) (step : StepModel) → IsPlan plan → Fits plan old → Advances plan old new step
    → StaysBehind old new step

abbrev pub AdvancingGoesOn : Type 0
AdvancingGoesOn =
    (plan : PlanModel) (old new : StateModel) (step : StepModel) → IsPlan plan → Fits plan old → Advances plan old new step
    → GoesOn plan old new step

-- the members that a domain sent, come back, can be taken by it
abbrev pub MembersCanComeBack : Type 0
MembersCanComeBack =
    (plan : PlanModel) (old new : StateModel) (sent children : List StateModel) → IsPlan plan → Advances plan old new (sends sent)
    → Fits plan new → EachCameBack plan sent children → TakesBack plan new children

-- and they answer what was asked of them as they were sent
abbrev pub MembersAnswerStill : Type 0
MembersAnswerStill =
    (plan : PlanModel) (faults : List Fault) (loaded : Words) (s : StateModel) (sent children : List StateModel)
    → EachCameBack plan sent children → EachAnswers plan faults loaded s sent → EachAnswers plan faults loaded s children

-- each of these has ended
abbrev pub AllEnded : List StateModel → Type 0
AllEnded [] = Unit {0}
AllEnded (child ∷ children) = IsEnded child.stage × AllEnded children

-- members that have ended, each as the domain that waits for them asked, can be taken by it
abbrev pub ArrivedCanBeTaken : Type 0
ArrivedCanBeTaken =
    (plan : PlanModel) (t : Task) (s : StateModel) (children : List StateModel) (domain : Domain) → IsPlan plan → Stands plan t s
    → IsWaiting s.stage → slice_get plan.tree.domains s.node.0 ≡ Some domain → nodes_of children ≡ members_at domain (waits_at s.stage)
    → EachAnswers plan t.faults t.loaded s children → AllEnded children → TakesBack plan s children
