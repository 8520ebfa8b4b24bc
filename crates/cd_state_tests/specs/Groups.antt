-- What the test of groups runs: the root of a program, with the members of its groups and theirs, turn by turn to its end.
use Rattle.std.specs.Prelude.{◌≡◌, Bool, true, false, List, [], length}
use Rattle.cd_base.specs.declared.place.Place.{Place}
use Rattle.cd_base.specs.Words.{in_ranges}
use Rattle.cd_tree.specs.Domains.{root_of}
use Rattle.cd_tree.specs.KindSets.{no_kinds}
use Rattle.cd_tree.specs.Meaning.{node_writes}
use Rattle.cd_tree.specs.Scripts.{IsAccepted}
use Rattle.cd_field.specs.FieldModel.{FieldModel}
use Rattle.cd_cover.specs.Plans.{PlanModel, IsPlan}
use Rattle.cd_core.specs.declared.state.Stage.{Stage}
use Rattle.cd_core.specs.declared.state.Outcome.{Outcome}
use Rattle.cd_core.specs.declared.state.Outcome.TheVariants.{Committed, Exhausted}
use Rattle.cd_core.specs.Asks.{EachAnswers}
use Rattle.cd_core.specs.Fits.{Fits, IsHere}
use Rattle.cd_core.specs.Returning.{Stays}
use Rattle.cd_core.specs.Stands.{Stands}
use Rattle.cd_core.specs.StateModel.{StateModel}
use Rattle.cd_core.specs.Steps.{Advances, CanMove, IsEnded, sends}
use Rattle.cd_core.specs.Tasks.{Task}

-- the part of a machine that was carved for the root, before anything has begun
pub record IsRootPart (plan : PlanModel) (m : FieldModel) : Type 0 where
  pub present : IsHere (root_of plan.tree.domains) m
  pub script : IsAccepted plan.tree m.script
  pub events : m.events ≡ []
  pub notes : m.notes ≡ no_kinds
  pub carved : (q : Place) → in_ranges m.carved q ≡ node_writes (root_of plan.tree.domains) q

-- it has ended, or can move on
abbrev pub Rests : Bool → Stage → Type 0
Rests true stage = IsEnded stage
Rests false stage = CanMove stage

-- a state after a turn
pub record HasTurned (plan : PlanModel) (old new : StateModel) (over : Bool) : Type 0 where
  pub fits : Fits plan new
  pub stays : Stays old new
  pub rests : Rests over new.stage
  pub stands : (t : Task) → Stands plan t old → Stands plan t new

-- a state that has sent these
pub record HasSent (plan : PlanModel) (s : StateModel) (sent : List StateModel) : Type 0 where
  pub plans : IsPlan plan
  pub was : StateModel
  pub advances : Advances plan was s (sends sent)

-- a state that has taken back what these came to
pub record HasTaken (plan : PlanModel) (old new : StateModel) (sent : List StateModel) : Type 0 where
  pub fits : Fits plan new
  pub stays : Stays old new
  pub moves : CanMove new.stage
  pub stands : (t : Task) → Stands plan t old → EachAnswers plan t.faults t.loaded old sent → Stands plan t new

-- a root that has ended, with a count for each domain
pub record IsOver (plan : PlanModel) (s : StateModel) : Type 0 where
  pub root : s.node.0 ≡ 0
  pub ended : IsEnded s.stage
  pub here : IsHere (root_of plan.tree.domains) s.field
  pub counts : length s.counts ≡ length plan.tree.domains

-- what is read of an outcome is there
abbrev pub IsReadable : {F : Type 0} → (F → FieldModel) → PlanModel → Outcome F → Type 0
IsReadable field plan (Committed machine begins) =
    IsHere (root_of plan.tree.domains) (field machine) × (length begins ≡ length plan.tree.domains)
IsReadable field plan (Exhausted machine begins cause) =
    IsHere (root_of plan.tree.domains) (field machine) × (length begins ≡ length plan.tree.domains)
