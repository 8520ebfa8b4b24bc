-- The root as it is started stands ready, with the words that it was loaded with and nothing begun.
use Rattle.std.proofs.Common.{◌≡◌, ℕ, suc, ◌<◌, ◌≤◌, ◌^◌, List, [], ◌∷◌, map, length, Option, Some, None, IsSomeAnd, Contains, slice_get, count_by, arith, refl, ap, subst, sym, ◌∙◌}
use Rattle.cd_tree.specs.declared.domain.NodeId.{NodeId}
use Rattle.cd_tree.specs.declared.domain.Domain.{Domain}
use Rattle.cd_tree.specs.declared.event.Event.{Event}
use Rattle.cd_tree.specs.AcceptedLaws.{CountsAreSmall}
use Rattle.cd_tree.specs.Domains.{Node, node_of, root_of, number_of, numbers_from}
use Rattle.cd_tree.specs.Reading.{no_begins}
use Rattle.cd_tree.specs.Record.{reading}
use Rattle.cd_tree.specs.Scripts.{path_of}
use Rattle.cd_tree.proofs.EachDomain.{root_there, number_there}
use Rattle.cd_tree.proofs.View.{domain_here}
use Rattle.cd_cover.specs.Links.{link_of}
use Rattle.cd_cover.specs.Outer.{outer_references}
use Rattle.cd_cover.specs.Plans.{PlanModel, IsPlan}
use Rattle.cd_tries.specs.KeepLaws.{is_lapse}
use Rattle.cd_core.specs.StateLaws.{StartingFits, StartingStands}
use Rattle.cd_core.specs.LawsBelow.{MoreLaws}
use Rattle.cd_core.proofs.Grounds.{view_in}
use Rattle.cd_core.proofs.Viewed.{view_is}

no_counts : (domains : List Domain) (at : ℕ) → map (λ (domain : Domain). 0) domains ≡ map no_begins (numbers_from at (length domains))
no_counts [] at = refl
no_counts (domain ∷ domains) at = ap (λ (ns : List ℕ). 0 ∷ ns) (no_counts domains (suc at))

no_link : {id : ℕ} → (x : Option (NodeId × ℕ)) → (P : NodeId → Type 0) → id ≡ 0 → IsSomeAnd x (λ (link : NodeId × ℕ). P link.0 × (link.0.0 < id)) → ⊥
no_link {id} None P top h = h
no_link {id} (Some link) P top h = omega (arith, h.1, top)

-- nothing lies above the root, so no reference leads out of it
pub no_outer : MoreLaws → (plan : PlanModel) (top : NodeId) (domain : Domain) (reference : NodeId × ℕ) → IsPlan plan → top.0 ≡ 0
    → slice_get plan.tree.domains top.0 ≡ Some domain → Contains (outer_references (view_in plan.tree top domain)) reference → ⊥
no_outer l plan top domain reference is_plan first listed outer =
    no_link (link_of plan.tree.domains reference.0 reference.1) (λ up. Contains (path_of plan.tree.domains top) up) first
    ((l.outer plan is_plan top (view_in plan.tree top domain) (l.follows plan.tree is_plan.program top domain listed) reference).0 outer).1

-- the law: a root that can be started stands ready
pub root_stands : MoreLaws → CountsAreSmall → StartingFits → StartingStands
root_stands l small starts plan m p is_plan room can =
    let top : NodeId = record { 0 = 0 } in
    let d : Node = root_of plan.tree.domains in
    let there : node_of plan.tree.domains top ≡ Some d = root_there plan.tree.domains is_plan.program.some in
    let number : number_of d ≡ 0 = number_there 0 plan.tree.domains 0 d there in
    let first : (domain : Domain) × (slice_get plan.tree.domains 0 ≡ Some domain) = domain_here plan.tree.domains 0 is_plan.program.some in
    let view : d ≡ view_in plan.tree top first.0 = view_is l.follows plan top first.0 d is_plan first.1 there in
    let Outer : NodeId × ℕ → Node → Type 0 = λ reference e. Contains (outer_references e) reference in
    let Few : List Event → Type 0 = λ events. count_by is_lapse events ≤ length p.gone in
    record {
      task = record {
        domain = ap (λ (n : ℕ). node_of plan.tree.domains (record { 0 = n })) number ∙ there;
        accepted = can.script;
        root = λ same q h. refl;
        small = λ n. (let few : (reading plan.tree m.script).counts n ≤ 2 ^ 32 = small plan.tree m.script n is_plan.program can.script in omega (arith, few));
      };
      fits = starts plan m p is_plan room can;
      domain = number;
      script = refl;
      carved = can.carved;
      lapses = subst Few (sym can.events) (omega arith);
      links = λ reference entry outer stands.
          absurd (no_outer l plan top first.0 reference is_plan refl first.1 (subst (Outer reference) view outer));
      stage = record {
        words = λ q h. refl;
        counts = no_counts plan.tree.domains 0 ∙ ap (map no_begins) (sym is_plan.program.preorder);
        events = can.events;
        notes = can.notes;
      };
    }
