-- How a domain is taken to its end, and its members with it: what lasts from turn to turn, and how much is still to be run.
use Rattle.std.specs.Prelude.{ℕ, ◌+◌, ◌-◌, ◌*◌, ◌<◌, max, Bool, true, false, List, [], ◌∷◌, length}
use Rattle.cd_cover.specs.Plans.{PlanModel}
use Rattle.cd_core.specs.StateModel.{StateModel}
use Rattle.cd_core.specs.Fits.{Fits}
use Rattle.cd_core.specs.Stands.{Stands}
use Rattle.cd_core.specs.Steps.{CanMove}
use Rattle.cd_core.specs.Tasks.{Task}
use Rattle.cd_core.specs.Returning.{Stays, CameBack, left_in}

-- ---- what can be run

-- it fits, and is neither ended nor waiting
pub record CanRun (plan : PlanModel) (s : StateModel) : Type 0 where
  pub fits : Fits plan s
  pub moves : CanMove s.stage

abbrev pub EachCanRun : PlanModel → List StateModel → Type 0
EachCanRun plan [] = Unit {0}
EachCanRun plan (s ∷ states) = CanRun plan s × EachCanRun plan states

-- ---- from turn to turn

-- a domain that was run so far, from one state to another: it stands wherever it stood
pub record OnItsWay (plan : PlanModel) (sent now : StateModel) : Type 0 where
  pub can : CanRun plan now
  pub stays : Stays sent now
  pub stands : (t : Task) → Stands plan t sent → Stands plan t now

-- a turn ends the domain, or brings it on, with fewer points left than before
abbrev pub Turned : PlanModel → StateModel → StateModel → Bool → Type 0
Turned plan old new true = CameBack plan old new
Turned plan old new false = OnItsWay plan old new × (left_in plan new < left_in plan old)

-- ---- how much is still to be run

-- how many domains of the program there are from this one on: fewer from each that lies below it
abbrev pub domains_from : PlanModel → StateModel → ℕ
domains_from plan s = length plan.tree.domains - s.node.0

abbrev pub most_from : PlanModel → List StateModel → ℕ
most_from plan [] = 0
most_from plan (s ∷ states) = max (domains_from plan s) (most_from plan states)

-- a number that is less of a group's members than of their domain, and less of a part of them
abbrev pub weight_of : PlanModel → StateModel → ℕ
weight_of plan s = domains_from plan s * 1024

abbrev pub weight_of_all : PlanModel → List StateModel → ℕ
weight_of_all plan states = most_from plan states * 1024 + 2 * length states
