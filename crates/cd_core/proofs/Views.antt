-- A state that fits, seen as a state of the listed domain.
use Rattle.std.proofs.Common.{◌≡◌, ℕ, true, Option, Some, slice_get, IsSome, refl, ap, subst, sym, ◌∙◌}
use Rattle.cd_base.specs.declared.place.Place.{Place}
use Rattle.cd_tree.specs.declared.domain.NodeId.{NodeId}
use Rattle.cd_tree.specs.declared.domain.Domain.{Domain}
use Rattle.cd_tree.specs.Domains.{Node, Body, node, node_of}
use Rattle.cd_tree.specs.Laws.{NestedViewFollows}
use Rattle.cd_tree.specs.Meaning.{node_reach}
use Rattle.cd_cover.specs.Plans.{PlanModel, IsPlan}
use Rattle.cd_core.specs.StateModel.{StateModel}
use Rattle.cd_core.specs.Fits.{Fits, FitsStage, LinksAreKept}
use Rattle.cd_core.proofs.Grounds.{view_in, body_in}

pub record FitsView (plan : PlanModel) (s : StateModel) (domain : Domain) : Type 0 where
  pub stage : FitsStage plan (view_in plan.tree s.node domain) domain s s.stage
  pub words : (p : Place) → node_reach (view_in plan.tree s.node domain) p ≡ true → IsSome (s.field.words p)
  pub links : LinksAreKept plan s.pass.known (view_in plan.tree s.node domain) s.above

same_node : (id : NodeId) (one two : Domain) (body other : Body) → ◌≡◌ {A = Option Node} (Some (node id one body)) (Some (node id two other))
    → (one ≡ two) × (body ≡ other)
same_node id one two body other e = (cc, cc)

pub fits_view : NestedViewFollows → (plan : PlanModel) (s : StateModel) (domain : Domain) → IsPlan plan
    → slice_get plan.tree.domains s.node.0 ≡ Some domain → Fits plan s → FitsView plan s domain
fits_view follows plan s domain is_plan listed f =
    let e : (f.domain ≡ domain) × (f.body ≡ body_in plan.tree domain) =
    same_node s.node f.domain domain f.body (body_in plan.tree domain) (sym f.is ∙ follows plan.tree is_plan.program s.node domain listed) in
    let A : Body → Type 0 = λ b. FitsStage plan (node s.node f.domain b) f.domain s s.stage in
    let B : Domain → Type 0 = λ d. FitsStage plan (node s.node d (body_in plan.tree domain)) d s s.stage in
    let C : Body → Type 0 = λ b. (p : Place) → node_reach (node s.node f.domain b) p ≡ true → IsSome (s.field.words p) in
    let D : Domain → Type 0 = λ d. (p : Place) → node_reach (node s.node d (body_in plan.tree domain)) p ≡ true → IsSome (s.field.words p) in
    let E : Body → Type 0 = λ b. LinksAreKept plan s.pass.known (node s.node f.domain b) s.above in
    let F : Domain → Type 0 = λ d. LinksAreKept plan s.pass.known (node s.node d (body_in plan.tree domain)) s.above in
    record {
      stage = subst B e.0 (subst A e.1 f.stage);
      words = subst D e.0 (subst C e.1 f.words);
      links = subst F e.0 (subst E e.1 f.links);
    }
