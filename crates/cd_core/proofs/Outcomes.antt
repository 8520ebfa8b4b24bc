-- The outcome of a root that has ended: the run that its ending tells of, and how often each domain began.
use Rattle.std.proofs.Common.{◌≡◌, ℕ, suc, ◌+◌, ◌≤◌, List, All, length, slice_index_or, refl, ap, sym, subst, arith}
use Rattle.std.proofs.lemmas.List.Elements.{All-map}
use Rattle.cd_tree.specs.declared.event.Cause.{Cause}
use Rattle.cd_tree.specs.Domains.{node_numbers, root_of}
use Rattle.cd_tree.specs.Laws.{CountsAreAtMostOneMoreThanEntries}
use Rattle.cd_tree.specs.Reading.{Counts}
use Rattle.cd_field.specs.FieldModel.{FieldModel}
use Rattle.cd_cover.specs.Plans.{PlanModel, IsPlan}
use Rattle.cd_core.specs.declared.state.Ending.{Ending}
use Rattle.cd_core.specs.declared.state.Ending.TheVariants.{Done, Escalated}
use Rattle.cd_core.specs.declared.state.NodeState.{NodeState}
use Rattle.cd_core.specs.declared.state.Outcome.{Outcome}
use Rattle.cd_core.specs.declared.state.Outcome.TheVariants.{Committed, Exhausted}
use Rattle.cd_core.specs.declared.state.Stage.{Stage}
use Rattle.cd_core.specs.declared.state.Stage.TheVariants.{Ready, Waiting, Resumed, Lost, Ended}
use Rattle.cd_core.specs.Running.{FewBegins, Ran, RanTo}
use Rattle.cd_core.specs.Steps.{IsOutcome, root_task}
use Rattle.cd_core.specs.Tasks.{task_reading}

-- the field and the begins of an outcome, in the place of the state's own
ran_as : (plan : PlanModel) (was now other : FieldModel) (begins counts : List ℕ) (ending : Ending) → now ≡ other → begins ≡ counts
    → Ran plan was other counts ending → Ran plan was now begins ending
ran_as plan was now other begins counts ending one two ran =
    let M : FieldModel → Type 0 = λ m. Ran plan was m begins ending in
    let C : List ℕ → Type 0 = λ c. Ran plan was other c ending in
    subst M (sym one) (subst C (sym two) ran)

pub ran_by : {F P : Type 0} (field : F → FieldModel) (plan : PlanModel) (was : FieldModel) (s : NodeState F P) (outcome : Outcome F) (stage : Stage)
    → ((ending : Ending) → stage ≡ Ended ending → Ran plan was (field s.field) s.counts.items ending) → IsOutcome s outcome stage → RanTo field plan was outcome
ran_by {F} {P} field plan was s (Committed machine begins) Ready has is = absurd is
ran_by {F} {P} field plan was s (Committed machine begins) (Waiting spare point) has is = absurd is
ran_by {F} {P} field plan was s (Committed machine begins) (Resumed spare point) has is = absurd is
ran_by {F} {P} field plan was s (Committed machine begins) (Lost spare cause over) has is = absurd is
ran_by {F} {P} field plan was s (Committed machine begins) (Ended (Done leak)) has is = (
  leak,
  ran_as plan was (field machine) (field s.field) begins s.counts.items (Done leak) (ap field is.0) is.1 (has (Done leak) refl),
)
ran_by {F} {P} field plan was s (Committed machine begins) (Ended (Escalated why over)) has is = absurd is
ran_by {F} {P} field plan was s (Exhausted machine begins cause) Ready has is = absurd is
ran_by {F} {P} field plan was s (Exhausted machine begins cause) (Waiting spare point) has is = absurd is
ran_by {F} {P} field plan was s (Exhausted machine begins cause) (Resumed spare point) has is = absurd is
ran_by {F} {P} field plan was s (Exhausted machine begins cause) (Lost spare cause' over) has is = absurd is
ran_by {F} {P} field plan was s (Exhausted machine begins cause) (Ended (Done leak)) has is = absurd is
ran_by {F} {P} field plan was s (Exhausted machine begins cause) (Ended (Escalated why over)) has is = (
  over,
  ran_as plan was (field machine) (field s.field) begins s.counts.items (Escalated cause over) (ap field is.0) is.1
      (let E : Ending → Type 0 = λ e. Ran plan was (field s.field) s.counts.items e in
      subst E (ap (λ (c : Cause). Escalated c over) (sym is.2)) (has (Escalated why over) refl)),
)

-- ---- how often

few_of : CountsAreAtMostOneMoreThanEntries → (plan : PlanModel) (was now : FieldModel) (begins : List ℕ) (ending : Ending) → IsPlan plan
    → Ran plan was now begins ending → All (λ count. count ≤ suc (length was.script)) begins
few_of law plan was now begins ending is_plan ran =
    let Few : List ℕ → Type 0 = λ xs. All (λ count. count ≤ suc (length was.script)) xs in
    let counts : Counts = (task_reading plan (root_task plan was)).counts in
    subst Few (sym ran.counts)
    (All-map (λ count. count ≤ suc (length was.script)) counts (node_numbers (root_of plan.tree.domains))
    (λ k d within. (
    let n : ℕ = slice_index_or (node_numbers (root_of plan.tree.domains)) k d in
    let most : (task_reading plan (root_task plan was)).counts n ≤ 1 + length was.script = law plan.tree was.script n is_plan.program in
    omega (arith, most)
    )))

pub few_begins : {F : Type 0} (field : F → FieldModel) → CountsAreAtMostOneMoreThanEntries → (plan : PlanModel) (was : FieldModel) (outcome : Outcome F)
    → IsPlan plan → RanTo field plan was outcome → FewBegins was outcome
few_begins {F} field law plan was (Committed machine begins) is_plan ran = few_of law plan was (field machine) begins (Done ran.0) is_plan ran.1
few_begins {F} field law plan was (Exhausted machine begins cause) is_plan ran =
    few_of law plan was (field machine) begins (Escalated cause ran.0) is_plan ran.1
