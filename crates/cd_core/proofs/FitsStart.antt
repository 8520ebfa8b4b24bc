-- The state with which a root is started fits.
use Rattle.std.proofs.Common.{◌≡◌, ℕ, ◌≤◌, List, [], ◌∷◌, Option, None, Some, All, IsSomeAnd, Contains, length, map, slice_get, refl, ap, subst, sym, ◌∙◌, arith}
use Rattle.std.proofs.lemmas.List.{length-map}
use Rattle.std.proofs.lemmas.List.Elements.{All-head, All-tail}
use Rattle.cd_tree.specs.declared.domain.NodeId.{NodeId}
use Rattle.cd_tree.specs.declared.domain.Domain.{Domain}
use Rattle.cd_tree.specs.Domains.{Node, node_of, node_numbers, root_of}
use Rattle.cd_tree.specs.Meaning.{node_need, node_reach}
use Rattle.cd_tree.proofs.EachDomain.{root_there}
use Rattle.cd_tree.proofs.View.{domain_here}
use Rattle.cd_tree.proofs.Walk.{length-numbers_from}
use Rattle.cd_cover.specs.Links.{link_of}
use Rattle.cd_cover.specs.Outer.{outer_references}
use Rattle.cd_cover.specs.OuterLaws.{IsOuter, LiesAbove}
use Rattle.cd_cover.specs.Plans.{PlanModel, IsPlan}
use Rattle.cd_field.specs.FieldModel.{FieldModel}
use Rattle.cd_keep.specs.PassModel.{PassModel}
use Rattle.cd_tries.specs.declared.keep.Keep.{Keep}
use Rattle.cd_tries.specs.declared.shelf.Level.{Level}
use Rattle.cd_core.specs.declared.state.Stage.TheVariants.{Ready}
use Rattle.cd_core.specs.LawsBelow.{MoreLaws}
use Rattle.cd_core.specs.Fits.{Fits}
use Rattle.cd_core.specs.StateLaws.{CanStart, StartingFits, StartingStands}
use Rattle.cd_core.specs.StateModel.{StateModel}
use Rattle.cd_core.specs.Stands.{Stands}
use Rattle.cd_core.specs.Steps.{root_state, root_task}
use Rattle.cd_core.proofs.Grounds.{body_in, view_in}
use Rattle.cd_core.proofs.Viewed.{view_is}

abbrev root_id : NodeId
root_id = record { 0 = 0 }

-- nothing lies above the root
none_above : (domains : List Domain) (link : Option (NodeId × ℕ)) → IsSomeAnd link (λ (up : NodeId × ℕ). LiesAbove domains root_id up.0) → ⊥
none_above domains None h = h
none_above domains (Some up) h = absurd (omega (arith, h.1))

-- so no reference of it leads out
no_outer : MoreLaws → (plan : PlanModel) (domain : Domain) → IsPlan plan → node_of plan.tree.domains root_id ≡ Some (view_in plan.tree root_id domain)
    → (reference : NodeId × ℕ) → Contains (outer_references (view_in plan.tree root_id domain)) reference → ⊥
no_outer l plan domain is_plan is (below, at) outer =
    let h : IsOuter plan.tree.domains (view_in plan.tree root_id domain) (below, at) =
    (l.outer plan is_plan root_id (view_in plan.tree root_id domain) is (below, at)).0 outer in
    none_above plan.tree.domains (link_of plan.tree.domains below at) h.1

-- the law: a root that is started fits
pub start_fits : MoreLaws → StartingFits
start_fits l plan m p is_plan few can =
    let first : (domain : Domain) × (slice_get plan.tree.domains 0 ≡ Some domain) = domain_here plan.tree.domains 0 is_plan.program.some in
    let d : Node = view_in plan.tree root_id first.0 in
    let is : node_of plan.tree.domains root_id ≡ Some d = l.follows plan.tree is_plan.program root_id first.0 first.1 in
    let root : root_of plan.tree.domains ≡ d =
    view_is l.follows plan root_id first.0 (root_of plan.tree.domains) is_plan first.1 (root_there plan.tree.domains is_plan.program.some) in
    let need : node_need (root_of plan.tree.domains) ≡ node_need d = ap (λ (x : Node). node_need x) root in
    record {
      domain = first.0;
      body = body_in plan.tree first.0;
      is = is;
      counts = length-map plan.tree.domains (λ (domain : Domain). 0) ∙ sym (length-numbers_from 0 (length plan.tree.domains))
          ∙ ap (λ (ns : List ℕ). length ns) (sym is_plan.program.preorder) ∙ ap (λ (x : Node). length (node_numbers x)) root;
      script = can.script;
      words = λ q h. (can.present q (ap (λ (x : Node). node_reach x q) root ∙ h)).known;
      most = omega (arith, need, can.room, few);
      links = λ reference entry outer stands. absurd (no_outer l plan first.0 is_plan is reference outer);
      stage = record {
        nothing = record { keeps = refl; holds = can.holds; room = can.room ∙ need };
        present = λ q h. can.present q (ap (λ (x : Node). node_reach x q) root ∙ h);
      };
    }

-- as many zeros as domains
zeros_are : (domains : List Domain) (counts : List ℕ) → length counts ≡ length domains → All (λ (n : ℕ). n ≡ 0) counts
    → counts ≡ map (λ (domain : Domain). 0) domains
zeros_are [] [] same all = refl
zeros_are [] (n ∷ ns) same all = absurd (omega (arith, same))
zeros_are (domain ∷ domains) [] same all = absurd (omega (arith, same))
zeros_are (domain ∷ domains) (n ∷ ns) same all =
    let first : n ≡ 0 = All-head (λ (k : ℕ). k ≡ 0) n ns all in
    let rest : ns ≡ map (λ (d : Domain). 0) domains = zeros_are domains ns (omega (arith, same)) (All-tail (λ (k : ℕ). k ≡ 0) n ns all) in
    ap (λ (k : ℕ). k ∷ ns) first ∙ ap (λ (ks : List ℕ). 0 ∷ ks) rest

-- the state that is made for the root
pub made_root : (plan : PlanModel) (m : FieldModel) (p : PassModel) (counts : List ℕ) (keeps : List Keep) (above : List Level)
    → length counts ≡ length plan.tree.domains → All (λ (n : ℕ). n ≡ 0) counts → keeps ≡ [] → above ≡ []
    → record { node = root_id; counts = counts; stage = Ready; keeps = keeps; above = above; field = m; pass = p } ≡ root_state plan m p
made_root plan m p counts keeps above many zeros no_keeps no_levels =
    ap (λ (cs : List ℕ). record (root_state plan m p) { counts = cs; keeps = keeps; above = above }) (zeros_are plan.tree.domains counts many zeros)
    ∙ ap (λ (ks : List Keep). record (root_state plan m p) { keeps = ks; above = above }) no_keeps
    ∙ ap (λ (ls : List Level). record (root_state plan m p) { above = ls }) no_levels

-- it fits, and stands
pub root_fits : StartingFits → (plan : PlanModel) (m : FieldModel) (p : PassModel) (s : StateModel) → IsPlan plan → p.room ≤ p.most
    → CanStart plan m p → s ≡ root_state plan m p → Fits plan s
root_fits starts plan m p s is_plan within can is =
    let F : StateModel → Type 0 = λ x. Fits plan x in
    subst F (sym is) (starts plan m p is_plan within can)

pub root_stands_there : StartingStands → (plan : PlanModel) (m : FieldModel) (p : PassModel) (s : StateModel) → IsPlan plan → p.room ≤ p.most
    → CanStart plan m p → s ≡ root_state plan m p → Stands plan (root_task plan m) s
root_stands_there starts plan m p s is_plan within can is =
    let S : StateModel → Type 0 = λ x. Stands plan (root_task plan m) x in
    subst S (sym is) (starts plan m p is_plan within can)
