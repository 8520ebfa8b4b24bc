-- What a run of a program comes to, and what the root answers at its start and at its end.
use Rattle.std.specs.Prelude.{◌≡◌, ℕ, suc, ◌≤◌, All, List, length}
use Rattle.cd_base.specs.declared.place.Place.{Place}
use Rattle.cd_base.specs.Words.{in_ranges}
use Rattle.cd_tree.specs.Domains.{root_of}
use Rattle.cd_tree.specs.Legal.{Legal}
use Rattle.cd_field.specs.FieldModel.{FieldModel}
use Rattle.cd_keep.specs.PassModel.{PassModel}
use Rattle.cd_cover.specs.Plans.{PlanModel, IsPlan}
use Rattle.cd_core.specs.declared.state.Ending.{Ending}
use Rattle.cd_core.specs.declared.state.Ending.TheVariants.{Done, Escalated}
use Rattle.cd_core.specs.declared.state.Outcome.{Outcome}
use Rattle.cd_core.specs.declared.state.Outcome.TheVariants.{Committed, Exhausted}
use Rattle.cd_core.specs.declared.state.Stage.TheVariants.{Ended}
use Rattle.cd_core.specs.StateModel.{StateModel}
use Rattle.cd_core.specs.Asks.{Answers, root_ask}
use Rattle.cd_core.specs.Fits.{IsHere}
use Rattle.cd_core.specs.Stands.{Sound, NotesAreLeak, ending_of}
use Rattle.cd_core.specs.StateLaws.{CanStart}
use Rattle.cd_core.specs.Steps.{root_state, root_task}
use Rattle.cd_core.specs.Tasks.{counts_in, task_reading}

-- a program has run on the root's machine: the record is legal for that of the one-thread reading, the counts and the end are the
-- reading's, all is present, the end is sound with the words that the machine had, and script and carved writes stayed
pub record Ran (plan : PlanModel) (was now : FieldModel) (begins : List ℕ) (ending : Ending) : Type 0 where
  pub legal : Legal plan.tree was.words now.events (task_reading plan (root_task plan was)).past.events
  pub counts : begins ≡ counts_in (root_of plan.tree.domains) (task_reading plan (root_task plan was)).counts
  pub ends : ending ≡ ending_of plan (task_reading plan (root_task plan was)).answer
  pub notes : NotesAreLeak now ending
  pub here : IsHere (root_of plan.tree.domains) now
  pub sound : Sound plan (root_task plan was) now ending
  pub script : now.script ≡ was.script
  pub carved : (q : Place) → in_ranges now.carved q ≡ in_ranges was.carved q

-- committed where the reading is done, exhausted with its cause where it escalates the root
abbrev pub RanTo : {F : Type 0} → (F → FieldModel) → PlanModel → FieldModel → Outcome F → Type 0
RanTo model plan was (Committed field begins) = (leak : ℕ) × Ran plan was (model field) begins (Done leak)
RanTo model plan was (Exhausted field begins cause) = (over : ℕ) × Ran plan was (model field) begins (Escalated cause over)

-- each domain began at most once more than the script has entries
abbrev pub FewBegins : {F : Type 0} → FieldModel → Outcome F → Type 0
FewBegins was (Committed field begins) = All (λ count. count ≤ suc (length was.script)) begins
FewBegins was (Exhausted field begins cause) = All (λ count. count ≤ suc (length was.script)) begins

-- ---- the root at its start and at its end

-- as it is started, it answers its ask
abbrev pub StartedRootsAnswer : Type 0
StartedRootsAnswer =
    (plan : PlanModel) (m : FieldModel) (p : PassModel) → IsPlan plan → p.room ≤ p.most → CanStart plan m p
    → Answers plan m.script m.words (root_ask plan m.words) (root_state plan m p)

-- where it has ended, as its ask says, the program has run
abbrev pub EndedRootsRan : Type 0
EndedRootsRan =
    (plan : PlanModel) (was : FieldModel) (p : PassModel) (s : StateModel) (ending : Ending) → IsPlan plan → CanStart plan was p
    → Answers plan was.script was.words (root_ask plan was.words) s → s.stage ≡ Ended ending → Ran plan was s.field s.counts ending
