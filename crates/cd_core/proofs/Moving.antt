-- What the code of an advance owes: its domain is in the plan, and what its tries came to fits the step that follows.
use Rattle.std.proofs.Common.{◌≡◌, ℕ, ◌<◌, ◌≤◌, ◌^◌, true, List, Some, All, IsSome, length, slice_get, refl, ap, subst, sym, ◌∙◌, arith}
use Rattle.cd_base.specs.declared.place.Place.{Place}
use Rattle.cd_tree.specs.declared.domain.Entry.{Entry}
use Rattle.cd_tree.specs.declared.domain.Domain.{Domain}
use Rattle.cd_tree.specs.declared.domain.NodeId.{NodeId}
use Rattle.cd_tree.specs.Domains.{Node, node, node_of}
use Rattle.cd_tree.specs.Limits.{entries_limit}
use Rattle.cd_tree.specs.Meaning.{in_entries}
use Rattle.cd_tree.proofs.View.{domain_fits}
use Rattle.cd_cover.specs.Plans.{PlanModel, IsPlan}
use Rattle.cd_tries.specs.Fitting.{HasWords}
use Rattle.cd_core.specs.declared.verdict.Verdict.{Verdict}
use Rattle.cd_core.specs.declared.verdict.Verdict.TheVariants.{Waits}
use Rattle.cd_core.specs.Advancing.{members_at}
use Rattle.cd_core.specs.Fits.{Fits}
use Rattle.cd_core.specs.LawsBelow.{MoreLaws}
use Rattle.cd_core.specs.StateLaws.{GroupsCanBeSent, TriesFit}
use Rattle.cd_core.specs.StateModel.{StateModel}
use Rattle.cd_core.specs.Steps.{Advances, AdvancesBy, CanMove, StepModel, ends_done, ends_escalated, no_memory, sends}
use Rattle.cd_core.specs.Trying.{AreBelow, CanSendAll, FitsTried, TriedFrom}
use Rattle.cd_core.proofs.Facts.{reach_is}
use Rattle.cd_core.proofs.Grounds.{view_in}

-- what moved by tries and a step advances
pub exactly : (plan : PlanModel) (old new : StateModel) (step : StepModel) → AdvancesBy plan old new step → Advances plan old new step
exactly plan old new (sends children) a = a
exactly plan old new ends_done a = a
exactly plan old new ends_escalated a = a
exactly plan old new no_memory a = tt

-- when its tries are done, the domain fits for the step that follows
pub tried_fits : MoreLaws → TriesFit → (plan : PlanModel) (old new : StateModel) (domain : Domain) (verdict : Verdict) → IsPlan plan
    → slice_get plan.tree.domains old.node.0 ≡ Some domain → Fits plan old → CanMove old.stage → TriedFrom old.stage plan domain old new verdict
    → (new.node ≡ old.node) × FitsTried plan (view_in plan.tree new.node domain) domain new verdict
tried_fits l tries plan old new domain verdict is_plan listed fits moves tried =
    let here : new.node ≡ old.node = ap (λ (s : StateModel). s.node) tried.state in
    let d : Node = view_in plan.tree old.node domain in
    let is : node_of plan.tree.domains old.node ≡ Some d = l.follows plan.tree is_plan.program old.node domain listed in
    let P : NodeId → Type 0 = λ id. FitsTried plan (view_in plan.tree id domain) domain new verdict in
    (here, subst P (sym here) (tries plan old new domain verdict is_plan listed fits moves tried d is))

-- the words of the entries of a domain whose tries are done
pub entries_have_words : MoreLaws → (plan : PlanModel) (s : StateModel) (domain : Domain) (verdict : Verdict) → IsPlan plan
    → slice_get plan.tree.domains s.node.0 ≡ Some domain → FitsTried plan (view_in plan.tree s.node domain) domain s verdict
    → HasWords domain.entries s.field
entries_have_words l plan s domain verdict is_plan listed fits p h = fits.words p (reach_is l plan s.node domain is_plan listed p ∙ h)

-- a domain of a plan has few entries
pub few_entries : (plan : PlanModel) (id : NodeId) (domain : Domain) → IsPlan plan → slice_get plan.tree.domains id.0 ≡ Some domain
    → length domain.entries < 2 ^ 32
few_entries plan id domain is_plan listed =
    let few : length domain.entries ≤ entries_limit = (domain_fits plan.tree is_plan.program id domain listed).entries in
    omega (arith, few)

-- the members of the group at which a domain has come can be sent
pub can_send : GroupsCanBeSent → (plan : PlanModel) (s : StateModel) (domain : Domain) (verdict : Verdict) (spare point : ℕ) (ids : List NodeId)
    → IsPlan plan → slice_get plan.tree.domains s.node.0 ≡ Some domain → FitsTried plan (view_in plan.tree s.node domain) domain s verdict
    → verdict ≡ Waits spare point → ids ≡ members_at domain point → AreBelow plan s ids × CanSendAll plan ids s.field s.pass
can_send send plan s domain verdict spare point ids is_plan listed fits waits named =
    let d : Node = view_in plan.tree s.node domain in
    let P : Verdict → Type 0 = λ v. FitsTried plan d domain s v in
    let A : List NodeId → Type 0 = λ xs. AreBelow plan s xs × CanSendAll plan xs s.field s.pass in
    subst A (sym named) (send plan s d domain spare point is_plan listed (subst P waits fits))
