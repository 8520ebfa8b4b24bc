-- What an advance does not pass over: the reach of its domain, and the answers of its pass.
use Rattle.std.specs.Prelude.{◌≡◌, ℕ, false, List, [], ◌∷◌, ◌++◌, Some, IsSomeAnd, Contains}
use Rattle.std.specs.List.{flat_map}
use Rattle.cd_base.specs.declared.place.Place.{Place}
use Rattle.cd_tree.specs.declared.domain.NodeId.{NodeId}
use Rattle.cd_tree.specs.declared.domain.Entry.{Entry}
use Rattle.cd_tree.specs.declared.event.Event.{Event}
use Rattle.cd_tree.specs.declared.event.Event.TheVariants.{Lapsed}
use Rattle.cd_tree.specs.Domains.{Node, node_of}
use Rattle.cd_tree.specs.Legal.{entry_at}
use Rattle.cd_tree.specs.Meaning.{node_reach}
use Rattle.cd_keep.specs.PassModel.{Gone}
use Rattle.cd_cover.specs.Links.{link_of}
use Rattle.cd_cover.specs.Plans.{PlanModel, IsPlan}
use Rattle.cd_tries.specs.Keeping.{linked_by}
use Rattle.cd_tries.specs.Preserving.{met}
use Rattle.cd_core.specs.StateModel.{StateModel}
use Rattle.cd_core.specs.Fits.{Fits}
use Rattle.cd_core.specs.Steps.{StepModel, sends, ends_done, ends_escalated, no_memory, Advances}

-- ---- the reach

-- at each place that the domain does not reach, the word is as before, and so is whether the place is away
abbrev pub SameOutside : PlanModel → StateModel → StateModel → Type 0
SameOutside plan old new =
    (d : Node) (p : Place) → node_of plan.tree.domains old.node ≡ Some d → node_reach d p ≡ false
    → (new.field.words p ≡ old.field.words p) × (new.field.lost p ≡ old.field.lost p)

-- after want of memory nothing is said
abbrev pub StaysOutside : PlanModel → StateModel → StateModel → StepModel → Type 0
StaysOutside plan old new (sends children) = SameOutside plan old new
StaysOutside plan old new ends_done = SameOutside plan old new
StaysOutside plan old new ends_escalated = SameOutside plan old new
StaysOutside plan old new no_memory = Unit {0}

-- ---- the answers

-- a lapse as it is told: of which domain, of which of its entries, and what was seen and found
pub record Lapse : Type 0 where
  pub node : NodeId
  pub entry : ℕ
  pub seen : ℕ
  pub found : ℕ

abbrev pub lapse_in : Event → List Lapse
lapse_in (Lapsed id entry seen found) = record { node = id; entry = entry; seen = seen; found = found } ∷ []
lapse_in _ = []

-- the lapses among events, in order
abbrev pub lapses_among : List Event → List Lapse
lapses_among events = flat_map lapse_in events

-- a gone answer to what was asked for an entry of the domain: for a piece of the entry's link that meets its range
pub record AnswersLapse (plan : PlanModel) (s : StateModel) (lapse : Lapse) (answer : Gone) : Type 0 where
  pub own : lapse.node ≡ s.node
  pub entry : Entry
  pub is : entry_at plan.tree.domains s.node lapse.entry ≡ Some entry
  pub asked : IsSomeAnd (linked_by s.above (link_of plan.tree.domains s.node lapse.entry)) (λ link. Contains (met link entry.range).ids answer.id)
  pub seen : answer.note.seen ≡ lapse.seen
  pub found : answer.note.found ≡ lapse.found

-- each lapse has an answer of its own, in order, and there are no others
abbrev pub EachLapseAnswered : PlanModel → StateModel → List Lapse → List Gone → Type 0
EachLapseAnswered plan s [] [] = Unit {0}
EachLapseAnswered plan s [] (answer ∷ answers) = ⊥
EachLapseAnswered plan s (lapse ∷ lapses) [] = ⊥
EachLapseAnswered plan s (lapse ∷ lapses) (answer ∷ answers) = AnswersLapse plan s lapse answer × EachLapseAnswered plan s lapses answers

-- the events that a call told, the gone answers that came in it, and that these answer the lapses among those
pub record AnswersItsLapses (plan : PlanModel) (old new : StateModel) : Type 0 where
  pub events : List Event
  pub answers : List Gone
  pub told : new.field.events ≡ old.field.events ++ events
  pub came : new.pass.gone ≡ old.pass.gone ++ answers
  pub each : EachLapseAnswered plan old (lapses_among events) answers

-- after want of memory nothing is said
abbrev pub LapsesAnswered : PlanModel → StateModel → StateModel → StepModel → Type 0
LapsesAnswered plan old new (sends children) = AnswersItsLapses plan old new
LapsesAnswered plan old new ends_done = AnswersItsLapses plan old new
LapsesAnswered plan old new ends_escalated = AnswersItsLapses plan old new
LapsesAnswered plan old new no_memory = Unit {0}

-- ---- laws

abbrev pub AdvancingStaysInside : Type 0
AdvancingStaysInside =
    (plan : PlanModel) (old new : StateModel) (step : StepModel) → IsPlan plan → Fits plan old → Advances plan old new step
    → StaysOutside plan old new step

abbrev pub AdvancingAnswersLapses : Type 0
AdvancingAnswersLapses =
    (plan : PlanModel) (old new : StateModel) (step : StepModel) → IsPlan plan → Fits plan old → Advances plan old new step
    → LapsesAnswered plan old new step
