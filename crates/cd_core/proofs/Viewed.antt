-- A domain of a plan by its number: how it is listed, and which places it touches.
use Rattle.std.proofs.Common.{◌≡◌, ◌<◌, [], length, Option, Some, slice_get, arith, ap, sym, ◌∙◌}
use Rattle.std.proofs.lemmas.Option.{slice_get-get_or, unwrap_or-slice_get}
use Rattle.cd_tree.specs.declared.domain.NodeId.{NodeId}
use Rattle.cd_tree.specs.declared.domain.Domain.{Domain}
use Rattle.cd_tree.specs.Domains.{Node, node_of, number_of}
use Rattle.cd_tree.specs.Laws.{NestedViewFollows}
use Rattle.cd_tree.proofs.EachDomain.{number_within}
use Rattle.cd_tree.proofs.View.{domain_here}
use Rattle.cd_foot.specs.declared.footprints.Foot.{Foot}
use Rattle.cd_foot.specs.Feet.{IsFoot}
use Rattle.cd_cover.specs.Plans.{PlanModel, IsPlan}
use Rattle.cd_core.specs.Asks.{foot_of}
use Rattle.cd_core.proofs.Grounds.{view_in}

-- a domain that is found by its number
pub record Viewed (plan : PlanModel) (id : NodeId) (d : Node) : Type 0 where
  pub domain : Domain
  pub listed : slice_get plan.tree.domains id.0 ≡ Some domain
  pub view : d ≡ view_in plan.tree id domain
  pub number : number_of d ≡ id.0

pub view_is : NestedViewFollows → (plan : PlanModel) (id : NodeId) (domain : Domain) (d : Node) → IsPlan plan
    → slice_get plan.tree.domains id.0 ≡ Some domain → node_of plan.tree.domains id ≡ Some d → d ≡ view_in plan.tree id domain
view_is follows plan id domain d is_plan listed there =
    let both : ◌≡◌ {A = Option Node} (Some d) (Some (view_in plan.tree id domain)) = sym there ∙ follows plan.tree is_plan.program id domain listed in
    cc

pub viewed : NestedViewFollows → (plan : PlanModel) (id : NodeId) (d : Node) → IsPlan plan → node_of plan.tree.domains id ≡ Some d → Viewed plan id d
viewed follows plan id d is_plan there =
    let here : (domain : Domain) × (slice_get plan.tree.domains id.0 ≡ Some domain) =
    domain_here plan.tree.domains id.0 (number_within plan.tree.domains id d there) in
    let view : d ≡ view_in plan.tree id here.0 = view_is follows plan id here.0 d is_plan here.1 there in
    record { domain = here.0; listed = here.1; view = view; number = ap number_of view }

-- its footprint in the plan is its own
pub foot_is : (plan : PlanModel) (id : NodeId) (d : Node) → IsPlan plan → node_of plan.tree.domains id ≡ Some d → IsFoot d (foot_of plan id)
foot_is plan id d is_plan there =
    let none : Foot = record { reads = []; writes = []; reach = [] } in
    let size : length plan.feet ≡ length plan.tree.domains = is_plan.footprints.size in
    let within : id.0 < length plan.tree.domains = number_within plan.tree.domains id d there in
    is_plan.footprints.each id d (foot_of plan id) there
    (slice_get-get_or plan.feet id.0 none (omega (arith, size, within)) ∙ ap (λ (foot : Foot). Some foot) (sym (unwrap_or-slice_get plan.feet id.0 none)))
