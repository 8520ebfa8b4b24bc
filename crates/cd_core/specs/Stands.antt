-- Where a domain stands at rest, after what it was sent with: ready, waiting at a group, resumed behind it, arrived.
use Rattle.std.specs.Prelude.{◌≡◌, ℕ, ◌≤◌, true, [], Some, slice_index, bit_or, count_by, length}
use Rattle.cd_base.specs.declared.place.Place.{Place}
use Rattle.cd_base.specs.Words.{in_ranges}
use Rattle.cd_tree.specs.declared.domain.Domain.{Domain}
use Rattle.cd_tree.specs.declared.event.Cause.{Cause}
use Rattle.cd_tree.specs.Domains.{Node, Body, Members, number_of, domain_of}
use Rattle.cd_tree.specs.FirstItems.{waiting_words, resumed_words}
use Rattle.cd_tree.specs.Fronts.{Front, front_of_node, WaitsAt}
use Rattle.cd_tree.specs.KindSets.{no_kinds, kinds_without}
use Rattle.cd_tree.specs.Legal.{Legal}
use Rattle.cd_tree.specs.Locality.{SameWords}
use Rattle.cd_tree.specs.Meaning.{node_reach, node_writes, node_meaning, member_writes}
use Rattle.cd_tree.specs.Reading.{Blame, Counts, Past, joined, Told, NodeEnd, GroupEnd, AllDone, SomeEscalated, read_members}
use Rattle.cd_tree.specs.Reading.{Done as done, Escalated as escalated}
use Rattle.cd_tree.specs.Scripts.{path_of}
use Rattle.cd_field.specs.FieldModel.{FieldModel}
use Rattle.cd_cover.specs.Plans.{PlanModel}
use Rattle.cd_tries.specs.KeepLaws.{is_lapse}
use Rattle.cd_core.specs.declared.state.Ending.{Ending}
use Rattle.cd_core.specs.declared.state.Ending.TheVariants.{Done, Escalated}
use Rattle.cd_core.specs.declared.state.Stage.{Stage}
use Rattle.cd_core.specs.declared.state.Stage.TheVariants.{Ready, Waiting, Resumed, Lost, Ended}
use Rattle.cd_core.specs.StateModel.{StateModel}
use Rattle.cd_core.specs.Fits.{Fits, IsHere}
use Rattle.cd_core.specs.Tasks.{Task, IsTask, task_case, task_reading, counts_in, LinksAgree, LinksGive, KeepsGive}

-- ---- endings

-- the cause of an escalation, with the path of the domain to blame
abbrev pub named : PlanModel → Blame → Cause
named plan cause = record { path = path_of plan.tree.domains cause.node; kinds = cause.kinds }

-- a domain's end in the reading, as its state tells it
abbrev pub ending_of : PlanModel → NodeEnd → Ending
ending_of plan (done leak) = Done leak
ending_of plan (escalated cause over) = Escalated (named plan cause) over

-- an end is sound. Done, with no leak, from words with which the links agree: all that the domain reaches is present, with
-- the words of its meaning. The root, escalated: all is present with the words that it began with
abbrev pub Sound : PlanModel → Task → FieldModel → Ending → Type 0
Sound plan t m (Done leak) =
    leak ≡ no_kinds → LinksAgree plan t
    → IsHere t.domain m × SameWords (node_reach t.domain) m.words (node_meaning t.domain t.words)
Sound plan t m (Escalated cause over) =
    number_of t.domain ≡ 0 → IsHere t.domain m × SameWords (node_reach t.domain) m.words t.words

-- ---- at rest

-- a domain that has begun: the number of its begin is its own count, and its keeps give the words that it was sent with
pub record AsSent (plan : PlanModel) (t : Task) (s : StateModel) : Type 0 where
  pub begin : s.field.begin ≡ slice_index s.counts 0
  pub keeps : KeepsGive s.pass.known t s.node 0 (domain_of t.domain).entries s.keeps

-- nothing is done
pub record StandsReady (plan : PlanModel) (t : Task) (s : StateModel) : Type 0 where
  pub words : SameWords (node_reach t.domain) s.field.words t.words
  pub counts : s.counts ≡ counts_in t.domain t.counts
  pub events : s.field.events ≡ []
  pub notes : s.field.notes ≡ no_kinds

-- the front of the domain's reading, in one of its tries, at which it waits for a group
pub record WaitingFront (plan : PlanModel) (t : Task) (spare point : ℕ) : Type 0 where
  pub attempt : ℕ
  pub front : Told Front
  pub is : front_of_node (task_case plan t) t.domain t.counts attempt point ≡ Some front
  pub left : front.answer.spare ≡ spare
  pub members : Members
  pub behind : Body
  pub waits : WaitsAt (task_case plan t) front.answer members behind

-- what the members of the group tell
abbrev pub members_told : (plan : PlanModel) (t : Task) (spare point : ℕ) → WaitingFront plan t spare point → Told GroupEnd
members_told plan t spare point f = read_members (task_case plan t) f.members f.front.counts

-- it waits there: what the members write is away, all else is present, and the words are those after the items before
pub record StandsWaiting (plan : PlanModel) (t : Task) (s : StateModel) (spare point : ℕ) : Type 0 where
  pub sent : AsSent plan t s
  pub at : WaitingFront plan t spare point
  pub legal : Legal plan.tree t.loaded s.field.events at.front.past.events
  pub notes : s.field.notes ≡ at.front.answer.stand.notes
  pub counts : s.counts ≡ counts_in t.domain at.front.counts
  pub away : (p : Place) → node_reach t.domain p ≡ true → s.field.lost p ≡ member_writes at.members p
  pub words : s.field.notes ≡ no_kinds → LinksAgree plan t
      → SameWords (node_reach t.domain) s.field.words (waiting_words t.domain point t.words)

-- the members' records are told, their counts and leaks are taken, and the words are those after the group
pub record StandsResumed (plan : PlanModel) (t : Task) (s : StateModel) (spare point : ℕ) : Type 0 where
  pub sent : AsSent plan t s
  pub at : WaitingFront plan t spare point
  pub leaks : ℕ
  pub done : (members_told plan t spare point at).answer ≡ AllDone leaks
  pub legal : Legal plan.tree t.loaded s.field.events (joined at.front.past (members_told plan t spare point at).past).events
  pub notes : s.field.notes ≡ bit_or at.front.answer.stand.notes leaks
  pub counts : s.counts ≡ counts_in t.domain (members_told plan t spare point at).counts
  pub words : s.field.notes ≡ no_kinds → LinksAgree plan t
      → SameWords (node_reach t.domain) s.field.words (resumed_words t.domain point t.words)

-- a member escalated: the state keeps what that gives its try
pub record StandsLost (plan : PlanModel) (t : Task) (s : StateModel) (spare : ℕ) (cause : Cause) (over : ℕ) : Type 0 where
  pub sent : AsSent plan t s
  pub point : ℕ
  pub at : WaitingFront plan t spare point
  pub blame : Blame
  pub more : ℕ
  pub lost : (members_told plan t spare point at).answer ≡ SomeEscalated blame more
  pub blamed : cause ≡ named plan blame
  pub undeclared : over ≡ kinds_without more (domain_of t.domain).detects
  pub legal : Legal plan.tree t.loaded s.field.events (joined at.front.past (members_told plan t spare point at).past).events
  pub counts : s.counts ≡ counts_in t.domain (members_told plan t spare point at).counts

-- the notes of the machine are the leak
abbrev pub NotesAreLeak : FieldModel → Ending → Type 0
NotesAreLeak m (Done leak) = m.notes ≡ leak
NotesAreLeak m (Escalated cause over) = Unit {0}

-- the domain has ended as its reading does
pub record StandsArrived (plan : PlanModel) (t : Task) (s : StateModel) (ending : Ending) : Type 0 where
  pub legal : Legal plan.tree t.loaded s.field.events (task_reading plan t).past.events
  pub counts : s.counts ≡ counts_in t.domain (task_reading plan t).counts
  pub ends : ending ≡ ending_of plan (task_reading plan t).answer
  pub notes : NotesAreLeak s.field ending
  pub sound : Sound plan t s.field ending

abbrev pub StandsAt : PlanModel → Task → StateModel → Stage → Type 0
StandsAt plan t s Ready = StandsReady plan t s
StandsAt plan t s (Waiting spare point) = StandsWaiting plan t s spare point
StandsAt plan t s (Resumed spare point) = StandsResumed plan t s spare point
StandsAt plan t s (Lost spare cause over) = StandsLost plan t s spare cause over
StandsAt plan t s (Ended ending) = StandsArrived plan t s ending

-- a state of a domain that was sent with this
pub record Stands (plan : PlanModel) (t : Task) (s : StateModel) : Type 0 where
  pub task : IsTask plan t
  pub fits : Fits plan s
  pub domain : number_of t.domain ≡ s.node.0
  pub script : s.field.script ≡ t.faults
  pub carved : (p : Place) → in_ranges s.field.carved p ≡ node_writes t.domain p
  pub lapses : count_by is_lapse s.field.events ≤ length s.pass.gone
  pub links : LinksGive plan t s.pass.known s.above
  pub stage : StandsAt plan t s s.stage
