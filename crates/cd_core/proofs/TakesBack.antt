-- What `resume` does, from its parts: the members are taken in order, and then the stage is set.
use Rattle.std.proofs.Common.{◌≡◌, ℕ, Bool, List, Option, Some, IsSomeAnd, map, slice_get, ap, sym, subst, ◌∙◌}
use Rattle.cd_tree.specs.declared.domain.Domain.{Domain}
use Rattle.cd_tree.specs.declared.event.Cause.{Cause}
use Rattle.cd_tree.proofs.View.{held}
use Rattle.cd_cover.specs.Plans.{PlanModel, IsPlan}
use Rattle.cd_core.specs.StateModel.{StateModel}
use Rattle.cd_core.specs.Fits.{Fits}
use Rattle.cd_core.specs.Tasks.{Task}
use Rattle.cd_core.specs.Stands.{Stands}
use Rattle.cd_core.specs.Asks.{EachAnswers}
use Rattle.cd_core.specs.Advancing.{members_at}
use Rattle.cd_core.specs.Resuming.{CanTakeEach, all_done, first_escalation, nodes_of, resumed}
use Rattle.cd_core.specs.StateLaws.{ResumingFits, ResumingStands, TakesBack}
use Rattle.cd_core.specs.Steps.{IsWaiting, waits_at}
use Rattle.cd_core.specs.TakingBack.{CanTakeAll, MembersCanBeTaken, stage_after, took_all}
use Rattle.cd_core.proofs.AfterTaking.{resumed_is, took_all_is}

-- what the call needs, as the laws have it
abbrev takes_back : (plan : PlanModel) (s : StateModel) (children : List StateModel) (domain : Domain)
    → slice_get plan.tree.domains s.node.0 ≡ Some domain → IsWaiting s.stage
    → IsSomeAnd (slice_get plan.tree.domains s.node.0) (λ d. nodes_of children ≡ members_at d (waits_at s.stage))
    → CanTakeEach plan s (all_done (first_escalation children)) children → TakesBack plan s children
takes_back plan s children domain listed waits members takes =
    let M : Domain → Type 0 = λ d. nodes_of children ≡ members_at d (waits_at s.stage) in
    record {
      waits = waits;
      domain = domain;
      is = listed;
      members = held M (slice_get plan.tree.domains s.node.0) domain listed members;
      takes = takes;
    }

pub can_take : MembersCanBeTaken → (plan : PlanModel) (s : StateModel) (children : List StateModel) (domain : Domain)
    → IsPlan plan → Fits plan s → slice_get plan.tree.domains s.node.0 ≡ Some domain → IsWaiting s.stage
    → IsSomeAnd (slice_get plan.tree.domains s.node.0) (λ d. nodes_of children ≡ members_at d (waits_at s.stage))
    → CanTakeEach plan s (all_done (first_escalation children)) children → CanTakeAll (all_done (first_escalation children)) s children
can_take law plan s children domain is_plan f listed waits members takes =
    law plan s children is_plan f (takes_back plan s children domain listed waits members takes)

pub fits_after : ResumingFits → (plan : PlanModel) (s new : StateModel) (children : List StateModel) (domain : Domain)
    → IsPlan plan → Fits plan s → slice_get plan.tree.domains s.node.0 ≡ Some domain → IsWaiting s.stage
    → IsSomeAnd (slice_get plan.tree.domains s.node.0) (λ d. nodes_of children ≡ members_at d (waits_at s.stage))
    → CanTakeEach plan s (all_done (first_escalation children)) children → new ≡ resumed s domain children
    → Fits plan new
fits_after law plan s new children domain is_plan f listed waits members takes is =
    subst (Fits plan) (sym is) (law plan s children is_plan f (takes_back plan s children domain listed waits members takes))

pub stands_after : ResumingStands → (plan : PlanModel) (t : Task) (s new : StateModel) (children : List StateModel) (domain : Domain)
    → IsPlan plan → Stands plan t s → slice_get plan.tree.domains s.node.0 ≡ Some domain → IsWaiting s.stage
    → IsSomeAnd (slice_get plan.tree.domains s.node.0) (λ d. nodes_of children ≡ members_at d (waits_at s.stage))
    → CanTakeEach plan s (all_done (first_escalation children)) children → EachAnswers plan t.faults t.loaded s children
    → new ≡ resumed s domain children → Stands plan t new
stands_after law plan t s new children domain is_plan st listed waits members takes answers is =
    subst (Stands plan t) (sym is) (law plan t s children is_plan (takes_back plan s children domain listed waits members takes) st answers)

-- whether all are done, of the list that a slice shows
pub all_shown : {A : Type 0} (model : A → StateModel) (commit : Bool) (shown all : List A) → commit ≡ all_done (first_escalation (map model shown))
    → shown ≡ all → commit ≡ all_done (first_escalation (map model all))
all_shown {A} model commit shown all is same = is ∙ ap (λ (xs : List A). all_done (first_escalation (map model xs))) same

-- it waits still when all are taken
pub waits_still : (commit : Bool) (s mid : StateModel) (children : List StateModel) → mid ≡ took_all commit s children → IsWaiting s.stage
    → IsWaiting mid.stage
waits_still commit s mid children took waits =
    subst IsWaiting (sym (ap (λ (x : StateModel). x.stage) (took ∙ took_all_is commit children s))) waits

pub resumes : (s mid new : StateModel) (domain : Domain) (children : List StateModel) (commit : Bool) (lost : Option (Cause × ℕ))
    → IsWaiting s.stage → commit ≡ all_done (first_escalation children) → mid ≡ took_all commit s children → lost ≡ first_escalation children
    → new ≡ record mid { stage = stage_after domain.detects lost mid.stage } → new ≡ resumed s domain children
resumes s mid new domain children commit lost waits commits took loses is =
    is
    ∙ ap (λ (x : Option (Cause × ℕ)). record mid { stage = stage_after domain.detects x mid.stage }) loses
    ∙ resumed_is s domain children waits mid (took ∙ ap (λ (b : Bool). took_all b s children) commits)
