-- What is counted: sums of an outcome's begins.
use Rattle.std.proofs.Common.{◌≡◌, ℕ, ◌+◌, List, Some, length, map, take, sum, slice_get, ap, subst, ◌∙◌, arith}
use Rattle.std.proofs.lemmas.List.{length-map}
use Rattle.std.proofs.lemmas.List.Sums.{sum_by_more}
use Rattle.std.proofs.lemmas.Option.{slice_get_within, get_or_from_slice_get}
use Rattle.cd_tree.specs.declared.event.Cause.{Cause}
use Rattle.cd_tree.specs.Domains.{numbers_from}
use Rattle.cd_tree.proofs.Walk.{length-numbers_from}
use Rattle.cd_field.specs.FieldModel.{FieldModel}
use Rattle.cd_cover.specs.Plans.{PlanModel, IsPlan}
use Rattle.cd_core.specs.declared.state.Ending.{Ending}
use Rattle.cd_core.specs.declared.state.Ending.TheVariants.{Done, Escalated}
use Rattle.cd_core.specs.declared.state.Outcome.{Outcome}
use Rattle.cd_core.specs.declared.state.Outcome.TheVariants.{Committed, Exhausted}
use Rattle.cd_core.specs.Running.{Ran, RanTo}
use Rattle.cd_core.specs.Steps.{root_task}
use Rattle.cd_core.specs.Tasks.{task_reading}

-- a sum with one number more
pub sum_next : (xs : List ℕ) (k x : ℕ) → slice_get xs k ≡ Some x → sum (take (k + 1) xs) ≡ sum (take k xs) + x
sum_next xs k x e =
    omega (arith, sum_by_more (λ (n : ℕ). n) xs k 0 (slice_get_within xs k x e), get_or_from_slice_get xs k x 0 e)

-- a program that has run has a count for each domain
pub count_each : (plan : PlanModel) (was now : FieldModel) (begins : List ℕ) (ending : Ending) → IsPlan plan → Ran plan was now begins ending
    → length begins ≡ length plan.tree.domains
count_each plan was now begins ending is ran =
    ap length ran.counts
    ∙ ap (λ (ns : List ℕ). length (map (task_reading plan (root_task plan was)).counts ns)) is.program.preorder
    ∙ length-map (numbers_from 0 (length plan.tree.domains)) (task_reading plan (root_task plan was)).counts
    ∙ length-numbers_from 0 (length plan.tree.domains)

-- so has an outcome, by which it is
pub committed_each : {F : Type 0} (model : F → FieldModel) (plan : PlanModel) (was : FieldModel) (outcome : Outcome F) (field : F)
    (begins : List ℕ) → IsPlan plan → RanTo model plan was outcome → outcome ≡ Committed field begins
    → length begins ≡ length plan.tree.domains
committed_each {F} model plan was outcome field begins is ran same =
    let here : RanTo model plan was (Committed field begins) = subst (λ (o : Outcome F). RanTo model plan was o) same ran in
    count_each plan was (model field) begins (Done here.0) is here.1

pub exhausted_each : {F : Type 0} (model : F → FieldModel) (plan : PlanModel) (was : FieldModel) (outcome : Outcome F) (field : F)
    (begins : List ℕ) (cause : Cause) → IsPlan plan → RanTo model plan was outcome → outcome ≡ Exhausted field begins cause
    → length begins ≡ length plan.tree.domains
exhausted_each {F} model plan was outcome field begins cause is ran same =
    let here : RanTo model plan was (Exhausted field begins cause) = subst (λ (o : Outcome F). RanTo model plan was o) same ran in
    count_each plan was (model field) begins (Escalated cause here.0) is here.1
