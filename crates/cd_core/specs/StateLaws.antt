-- The laws of states: what a call does, exactly, leaves a state that fits and that stands where it should. Each is a contract of `laws`.
use Rattle.std.specs.Prelude.{◌≡◌, ℕ, ◌≤◌, true, List, [], Option, None, Some, slice_get, length, count_by}
use Rattle.cd_base.specs.declared.place.Place.{Place}
use Rattle.cd_base.specs.Words.{in_ranges}
use Rattle.cd_tree.specs.declared.domain.NodeId.{NodeId}
use Rattle.cd_tree.specs.declared.domain.Domain.{Domain}
use Rattle.cd_tree.specs.declared.event.Cause.{Cause}
use Rattle.cd_tree.specs.declared.event.Event.TheVariants.{Complete}
use Rattle.cd_tree.specs.Domains.{Node, root_of, node_of, number_of}
use Rattle.cd_tree.specs.FirstItems.{waiting_words}
use Rattle.cd_tree.specs.KindSets.{no_kinds}
use Rattle.cd_tree.specs.Legal.{Legal}
use Rattle.cd_tree.specs.Locality.{SameWords}
use Rattle.cd_tree.specs.Meaning.{node_reach, node_writes, node_need}
use Rattle.cd_tree.specs.Reading.{Told, NodeEnd, Past}
use Rattle.cd_tree.specs.Scripts.{IsAccepted}
use Rattle.cd_field.specs.FieldModel.{FieldModel, told, gone_up}
use Rattle.cd_keep.specs.PassModel.{PassModel, HoldsNothing}
use Rattle.cd_cover.specs.Plans.{PlanModel, IsPlan}
use Rattle.cd_tries.specs.declared.keep.Keep.{Keep}
use Rattle.cd_tries.specs.KeepLaws.{is_lapse}
use Rattle.cd_tries.specs.Keeping.{all_ids}
use Rattle.cd_tries.specs.Refilling.{gave_up_each}
use Rattle.cd_core.specs.declared.state.Stage.TheVariants.{Waiting, Ended}
use Rattle.cd_core.specs.declared.state.Ending.{Ending}
use Rattle.cd_core.specs.declared.state.Ending.TheVariants.{Done, Escalated}
use Rattle.cd_core.specs.StateModel.{StateModel}
use Rattle.cd_core.specs.Fits.{Fits, IsHere, HasBegun}
use Rattle.cd_core.specs.Tasks.{Task, IsTask, counts_in, LinksAgree, LinksGive}
use Rattle.cd_core.specs.Stands.{Stands, AsSent, WaitingFront, StandsArrived}
use Rattle.cd_core.specs.Asks.{EachAnswers}
use Rattle.cd_core.specs.Advancing.{Judged, TriesSo, all_sent, field_behind, pass_behind, put_back_at_root, state_behind, state_sending}
use Rattle.cd_core.specs.declared.verdict.Verdict.{Verdict}
use Rattle.cd_core.specs.declared.verdict.Verdict.TheVariants.{Waits, Completes, Escalates}
use Rattle.cd_core.specs.Resuming.{CanTakeEach, all_done, first_escalation, nodes_of, resumed}
use Rattle.cd_core.specs.Advancing.{members_at}
use Rattle.cd_core.specs.Trying.{AreBelow, CanMakeTries, CanSendAll, FitsTried, TriedFrom}
use Rattle.cd_core.specs.Steps.{StepModel, sends, ends_done, ends_escalated, CanMove, Advances, AllFit, FitsBehind, StandsBehind, IsWaiting, waits_at, root_state, root_task}

-- ---- fitting

abbrev pub AdvancingFits : Type 0
AdvancingFits =
    (plan : PlanModel) (old new : StateModel) (step : StepModel) → IsPlan plan → Fits plan old → CanMove old.stage
    → Advances plan old new step → FitsBehind plan new step

-- the members that a state waits for have come back, and can be taken
pub record TakesBack (plan : PlanModel) (s : StateModel) (children : List StateModel) : Type 0 where
  pub waits : IsWaiting s.stage
  pub domain : Domain
  pub is : slice_get plan.tree.domains s.node.0 ≡ Some domain
  pub members : nodes_of children ≡ members_at domain (waits_at s.stage)
  pub takes : CanTakeEach plan s (all_done (first_escalation children)) children

abbrev pub ResumingFits : Type 0
ResumingFits =
    (plan : PlanModel) (s : StateModel) (children : List StateModel) → IsPlan plan → Fits plan s
    → (back : TakesBack plan s children) → Fits plan (resumed s back.domain children)

-- ---- standing

-- a domain behind its tries, before its members are sent or it ends: the machine, the pass and the counts are already as they came
pub record StandsTried (plan : PlanModel) (t : Task) (s : StateModel) (spare point : ℕ) : Type 0 where
  pub sent : AsSent plan t s
  pub at : WaitingFront plan t spare point
  pub legal : Legal plan.tree t.loaded s.field.events at.front.past.events
  pub notes : s.field.notes ≡ at.front.answer.stand.notes
  pub counts : s.counts ≡ counts_in t.domain at.front.counts
  pub present : IsHere t.domain s.field
  pub words : s.field.notes ≡ no_kinds → LinksAgree plan t
      → SameWords (node_reach t.domain) s.field.words (waiting_words t.domain point t.words)

-- the tries of a domain that stands come to the group at which its reading waits
abbrev pub TriesComeToGroups : Type 0
TriesComeToGroups =
    (plan : PlanModel) (t : Task) (s : StateModel) (domain : Domain) (keeps : List Keep) (q : PassModel) (j : Judged) (spare point : ℕ)
    → IsPlan plan → Stands plan t s → slice_get plan.tree.domains s.node.0 ≡ Some domain
    → TriesSo plan domain s keeps q j s.stage → j.verdict ≡ Waits spare point
    → StandsTried plan t (state_sending s keeps j.begin j.field q) spare point

-- how a domain ends by a verdict, where it does
abbrev pub verdict_ending : Verdict → Option Ending
verdict_ending (Waits spare point) = None
verdict_ending (Completes leak) = Some (Done leak)
verdict_ending (Escalates cause over) = Some (Escalated cause over)

-- the tries of a domain that stands come to its end as its reading does
abbrev pub TriesComeToEnds : Type 0
TriesComeToEnds =
    (plan : PlanModel) (t : Task) (s : StateModel) (domain : Domain) (keeps : List Keep) (q : PassModel) (j : Judged) (ending : Ending)
    → IsPlan plan → Stands plan t s → slice_get plan.tree.domains s.node.0 ≡ Some domain
    → TriesSo plan domain s keeps q j s.stage → verdict_ending j.verdict ≡ Some ending
    → StandsArrived plan t (state_behind plan domain s keeps q j.begin j.field j.verdict) ending

-- a domain that stands advances to where it should stand, and what it sends answers what it asks
abbrev pub AdvancingStands : Type 0
AdvancingStands =
    (plan : PlanModel) (t : Task) (old new : StateModel) (step : StepModel) → IsPlan plan → CanMove old.stage
    → Advances plan old new step → Stands plan t old → StandsBehind plan t new step

-- a domain that stands waiting, whose members answer as they arrived, stands behind them
abbrev pub ResumingStands : Type 0
ResumingStands =
    (plan : PlanModel) (t : Task) (s : StateModel) (children : List StateModel) → IsPlan plan
    → (back : TakesBack plan s children) → Stands plan t s → EachAnswers plan t.faults t.loaded s children
    → Stands plan t (resumed s back.domain children)

-- what a root is started on
pub record CanStart (plan : PlanModel) (m : FieldModel) (p : PassModel) : Type 0 where
  pub present : IsHere (root_of plan.tree.domains) m
  pub script : IsAccepted plan.tree m.script
  pub events : m.events ≡ []
  pub notes : m.notes ≡ no_kinds
  pub carved : (q : Place) → in_ranges m.carved q ≡ node_writes (root_of plan.tree.domains) q
  pub holds : HoldsNothing p
  pub room : p.room ≡ node_need (root_of plan.tree.domains)

abbrev pub StartingFits : Type 0
StartingFits =
    (plan : PlanModel) (m : FieldModel) (p : PassModel) → IsPlan plan → p.room ≤ p.most → CanStart plan m p → Fits plan (root_state plan m p)

abbrev pub StartingStands : Type 0
StartingStands =
    (plan : PlanModel) (m : FieldModel) (p : PassModel) → IsPlan plan → p.room ≤ p.most → CanStart plan m p
    → Stands plan (root_task plan m) (root_state plan m p)

-- ---- the parts of an advance

-- a domain that can move can make its tries
abbrev pub TriesCanBeMade : Type 0
TriesCanBeMade =
    (plan : PlanModel) (s : StateModel) (domain : Domain) → IsPlan plan → slice_get plan.tree.domains s.node.0 ≡ Some domain
    → Fits plan s → CanMove s.stage → CanMakeTries plan domain s s.stage

-- and fits when they are done
abbrev pub TriesFit : Type 0
TriesFit =
    (plan : PlanModel) (old new : StateModel) (domain : Domain) (verdict : Verdict) → IsPlan plan
    → slice_get plan.tree.domains old.node.0 ≡ Some domain → Fits plan old → CanMove old.stage
    → TriedFrom old.stage plan domain old new verdict
    → (d : Node) → node_of plan.tree.domains old.node ≡ Some d → FitsTried plan d domain new verdict

-- the members of the group at which it waits can be sent
abbrev pub GroupsCanBeSent : Type 0
GroupsCanBeSent =
    (plan : PlanModel) (s : StateModel) (d : Node) (domain : Domain) (spare point : ℕ) → IsPlan plan
    → slice_get plan.tree.domains s.node.0 ≡ Some domain → FitsTried plan d domain s (Waits spare point)
    → AreBelow plan s (members_at domain point) × CanSendAll plan (members_at domain point) s.field s.pass

-- the state after the members of a group were sent
abbrev pub waiting_for : PlanModel → StateModel → List NodeId → ℕ → ℕ → StateModel
waiting_for plan s ids spare point = record s {
  stage = Waiting spare point;
  field = field_behind plan ids s.field;
  pass = pass_behind plan ids s.pass;
}

-- it fits then, and so do the members
abbrev pub SendingFits : Type 0
SendingFits =
    (plan : PlanModel) (s : StateModel) (d : Node) (domain : Domain) (spare point : ℕ) → IsPlan plan
    → slice_get plan.tree.domains s.node.0 ≡ Some domain → FitsTried plan d domain s (Waits spare point)
    → Fits plan (waiting_for plan s (members_at domain point) spare point)
    × AllFit plan (all_sent plan s (members_at domain point) s.field s.pass)

-- the state after an end: it completes, or escalates
abbrev pub completed : StateModel → ℕ → StateModel
completed s leak = record s {
  stage = Ended (Done leak);
  keeps = [];
  field = told s.field (Complete s.node);
  pass = gave_up_each s.pass (all_ids s.keeps);
}

abbrev pub escalated_by : Domain → StateModel → Cause → ℕ → StateModel
escalated_by domain s cause over = record s {
  stage = Ended (Escalated cause over);
  keeps = [];
  field = gone_up (put_back_at_root domain s.pass.known s.keeps s.field);
  pass = gave_up_each s.pass (all_ids s.keeps);
}

-- what follows a verdict, exactly: the state and the step
abbrev pub Concludes : PlanModel → Domain → StateModel → Verdict → StateModel → StepModel → Type 0
Concludes plan domain s (Waits spare point) new step =
    (new ≡ waiting_for plan s (members_at domain point) spare point) × (step ≡ sends (all_sent plan s (members_at domain point) s.field s.pass))
Concludes plan domain s (Completes leak) new step = (new ≡ completed s leak) × (step ≡ ends_done)
Concludes plan domain s (Escalates cause over) new step = (new ≡ escalated_by domain s cause over) × (step ≡ ends_escalated)

abbrev pub CompletingFits : Type 0
CompletingFits =
    (plan : PlanModel) (s : StateModel) (d : Node) (domain : Domain) (leak : ℕ) → IsPlan plan
    → slice_get plan.tree.domains s.node.0 ≡ Some domain → FitsTried plan d domain s (Completes leak) → Fits plan (completed s leak)

abbrev pub EscalatingFits : Type 0
EscalatingFits =
    (plan : PlanModel) (s : StateModel) (d : Node) (domain : Domain) (cause : Cause) (over : ℕ) → IsPlan plan
    → slice_get plan.tree.domains s.node.0 ≡ Some domain → FitsTried plan d domain s (Escalates cause over)
    → Fits plan (escalated_by domain s cause over)

-- what a state has at every stage, after what its domain was sent with
pub record StandsApart (plan : PlanModel) (t : Task) (s : StateModel) : Type 0 where
  pub domain : number_of t.domain ≡ s.node.0
  pub script : s.field.script ≡ t.faults
  pub carved : (p : Place) → in_ranges s.field.carved p ≡ node_writes t.domain p
  pub lapses : count_by is_lapse s.field.events ≤ length s.pass.gone
  pub links : LinksGive plan t s.pass.known s.above

-- when the members are sent, the domain stands waiting, and each member answers what is asked of it
abbrev pub SendingStands : Type 0
SendingStands =
    (plan : PlanModel) (t : Task) (s : StateModel) (domain : Domain) (spare point : ℕ) → IsPlan plan → IsTask plan t
    → slice_get plan.tree.domains s.node.0 ≡ Some domain → StandsApart plan t s → FitsTried plan t.domain domain s (Waits spare point)
    → StandsTried plan t s spare point
    → Stands plan t (waiting_for plan s (members_at domain point) spare point)
    × EachAnswers plan t.faults t.loaded (waiting_for plan s (members_at domain point) spare point)
    (all_sent plan s (members_at domain point) s.field s.pass)
