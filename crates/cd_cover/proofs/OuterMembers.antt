-- The outer references of a child and of its parent.
use Rattle.std.proofs.Common.{◌≡◌, ◌⊎◌, inl, inr, ℕ, ◌<◌, ◌≤◌, List, Option, Some, slice_get, sym, ap, ◌∙◌, subst, arith}
use Rattle.std.specs.List.{Contains}
use Rattle.std.proofs.lemmas.List.Elements.{All-weaker, All-contains_itself}
use Rattle.std.proofs.lemmas.Bool.{cases_lt}
use Rattle.std.proofs.lemmas.Option.{same_Some}
use Rattle.cd_base.proofs.ListLemmas.{some_of, some_and}
use Rattle.cd_tree.specs.declared.domain.NodeId.{NodeId}
use Rattle.cd_tree.specs.declared.domain.Domain.{Domain}
use Rattle.cd_tree.specs.TreeModel.{TreeModel, IsTree}
use Rattle.cd_tree.specs.Domains.{Node, node_of, node_numbers}
use Rattle.cd_tree.specs.Scripts.{path_of}
use Rattle.cd_cover.specs.Links.{link_of}
use Rattle.cd_cover.specs.Outer.{outer_references}
use Rattle.cd_cover.specs.Plans.{PlanModel, IsPlan}
use Rattle.cd_cover.specs.OuterLaws.{LiesAbove, IsOuter, IsChild, LinksTo, OuterOfMembers, OuterLieBelow}
use Rattle.cd_cover.proofs.Downward.{Known, view_in, same_id}
use Rattle.cd_cover.proofs.PathLemmas.{InParent, in_own_parent, numbers_through, path_cases, path_before, path_up}
use Rattle.cd_cover.proofs.OuterLemmas.{PlanFacts, plan_facts}
use Rattle.cd_cover.proofs.OuterWhich.{outer_exactly}

-- an outer reference, as the view of a list has it
pub record OuterParts (domains : List Domain) (id : NodeId) (domain : Domain) (reference : NodeId × ℕ) : Type 0 where
  pub within : Contains (node_numbers (view_in domains id domain)) reference.0.0
  pub link : NodeId × ℕ
  pub is : link_of domains reference.0 reference.1 ≡ Some link
  pub on : Contains (path_of domains id) link.0
  pub before : link.0.0 < id.0

pub outer_parts : (domains : List Domain) (links : List (List (Option (NodeId × ℕ)))) → PlanFacts domains links
    → (id : NodeId) (domain : Domain) → slice_get domains id.0 ≡ Some domain → (reference : NodeId × ℕ)
    → Contains (outer_references (view_in domains id domain)) reference → OuterParts domains id domain reference
outer_parts domains links facts id domain there (below, at) among =
    let outer : IsOuter domains (view_in domains id domain) (below, at) =
    (outer_exactly domains links facts id (view_in domains id domain) (facts.all.view id domain there) (below, at)).0 among in
    let link = some_of (link_of domains below at) (λ l. LiesAbove domains id l.0) outer.1 in
    record { within = outer.0; link = link.0; is = link.1; on = link.2.0; before = link.2.1 }

pub outer_from_parts : (domains : List Domain) (links : List (List (Option (NodeId × ℕ)))) → PlanFacts domains links
    → (id : NodeId) (domain : Domain) → slice_get domains id.0 ≡ Some domain → (reference : NodeId × ℕ) (link : NodeId × ℕ)
    → Contains (node_numbers (view_in domains id domain)) reference.0.0 → link_of domains reference.0 reference.1 ≡ Some link
    → Contains (path_of domains id) link.0 → link.0.0 < id.0 → Contains (outer_references (view_in domains id domain)) reference
outer_from_parts domains links facts id domain there (below, at) link within is on before =
    (outer_exactly domains links facts id (view_in domains id domain) (facts.all.view id domain there) (below, at)).1
    (within, some_and (link_of domains below at) (λ l. LiesAbove domains id l.0) link is (on, before))

-- the link of an outer reference of a child lies above it: it is in the parent or above
pub link_over : (domains : List Domain) → Known domains → (id parent : NodeId) (domain : Domain) → slice_get domains id.0 ≡ Some domain
    → domain.parent ≡ Some parent → (up : NodeId) → Contains (path_of domains id) up → up.0 < id.0 → Contains (path_of domains parent) up
link_over domains all id parent domain there is up on before =
    elim (path_cases domains all id domain there up on) [
      | inl same ↦
          let number : id.0 ≡ up.0 = ap (λ (i : NodeId). i.0) same in
          absurd (omega arith)
      | inr above ↦
          subst (λ (i : NodeId). Contains (path_of domains i) up) (same_Some above.parent parent (sym above.is_parent ∙ is)) above.on_path
    ]

-- a domain and its parent, in the list and in the view
pub record Family (domains : List Domain) (parent id : NodeId) : Type 0 where
  pub over : Domain
  pub over_there : slice_get domains parent.0 ≡ Some over
  pub domain : Domain
  pub there : slice_get domains id.0 ≡ Some domain
  pub is_parent : domain.parent ≡ Some parent
  pub among : Contains (node_numbers (view_in domains parent over)) id.0

pub family : (tree : TreeModel) → IsTree tree → Known tree.domains → (parent id : NodeId) → IsChild tree.domains parent id
    → Family tree.domains parent id
family tree is all parent id child =
    let here = some_of (slice_get tree.domains id.0) (λ domain. domain.parent ≡ Some parent) child in
    let found : InParent tree.domains id here.0 = in_own_parent tree is all id parent here.0 here.1 here.2 in
    let same : found.parent ≡ parent = same_Some found.parent parent (sym found.is_parent ∙ here.2) in
    record {
      over = found.over;
      over_there = subst (λ (i : NodeId). slice_get tree.domains i.0 ≡ Some found.over) same found.there;
      domain = here.0;
      there = here.1;
      is_parent = here.2;
      among = subst (λ (i : NodeId). Contains (node_numbers (view_in tree.domains i found.over)) id.0) same found.among;
    }

-- the view of a domain that is there
pub view_is : (domains : List Domain) → Known domains → (id : NodeId) (domain : Domain) → slice_get domains id.0 ≡ Some domain
    → (d : Node) → node_of domains id ≡ Some d → d ≡ view_in domains id domain
view_is domains all id domain there d found =
    let view : node_of domains id ≡ Some (view_in domains id domain) = all.view id domain there in
    cc

-- a domain of a plan and its parent, with the views that they have
pub record Kin (plan : PlanModel) (parent id : NodeId) (above d : Node) : Type 0 where
  pub facts : PlanFacts plan.tree.domains plan.links
  pub family : Family plan.tree.domains parent id
  pub below_is : d ≡ view_in plan.tree.domains id family.domain
  pub above_is : above ≡ view_in plan.tree.domains parent family.over

pub kin_of : (plan : PlanModel) → IsPlan plan → (parent id : NodeId) (above d : Node) → node_of plan.tree.domains parent ≡ Some above
    → node_of plan.tree.domains id ≡ Some d → IsChild plan.tree.domains parent id → Kin plan parent id above d
kin_of plan is parent id above d found_above found child =
    let facts : PlanFacts plan.tree.domains plan.links = plan_facts plan is in
    let kin : Family plan.tree.domains parent id = family plan.tree is.program facts.all parent id child in
    record {
      facts = facts;
      family = kin;
      below_is = view_is plan.tree.domains facts.all id kin.domain kin.there d found;
      above_is = view_is plan.tree.domains facts.all parent kin.over kin.over_there above found_above;
    }

member_or_own : (domains : List Domain) (links : List (List (Option (NodeId × ℕ)))) → PlanFacts domains links → (parent id : NodeId)
    → (kin : Family domains parent id) → (reference : NodeId × ℕ) → Contains (outer_references (view_in domains id kin.domain)) reference
    → LinksTo domains parent reference ⊎ Contains (outer_references (view_in domains parent kin.over)) reference
member_or_own domains links facts parent id kin reference among =
    let parts : OuterParts domains id kin.domain reference = outer_parts domains links facts id kin.domain kin.there reference among in
    let on : Contains (path_of domains parent) parts.link.0 =
    link_over domains facts.all id parent kin.domain kin.there kin.is_parent parts.link.0 parts.on parts.before in
    let low : parts.link.0.0 ≤ parent.0 = path_before domains facts.all parent kin.over kin.over_there parts.link.0 on in
    elim (cases_lt parts.link.0.0 parent.0) [
      | inl before ↦
          inr
          (outer_from_parts domains links facts parent kin.over kin.over_there reference parts.link
          (numbers_through domains facts.all parent kin.over kin.over_there id kin.domain kin.there kin.among reference.0.0 parts.within)
          parts.is on before)
      | inr not ↦
          let here : parts.link.0 ≡ parent = same_id parts.link.0 parent (omega arith) in
          inl (some_and (link_of domains reference.0 reference.1) (λ link. link.0 ≡ parent) parts.link parts.is here)
    ]

pub outer_of_members : OuterOfMembers
outer_of_members plan is parent id above d found_above found child =
    let domains : List Domain = plan.tree.domains in
    let kin : Kin plan parent id above d = kin_of plan is parent id above d found_above found child in
    All-weaker (Contains (outer_references d)) (λ reference. LinksTo domains parent reference ⊎ Contains (outer_references above) reference)
    (λ reference among.
    subst (λ (v : Node). LinksTo domains parent reference ⊎ Contains (outer_references v) reference) (sym kin.above_is)
    (member_or_own domains plan.links kin.facts parent id kin.family reference
    (subst (λ (v : Node). Contains (outer_references v) reference) kin.below_is among)))
    (outer_references d) (All-contains_itself (outer_references d))

lies_below : (domains : List Domain) (links : List (List (Option (NodeId × ℕ)))) → PlanFacts domains links → (parent id : NodeId)
    → (kin : Family domains parent id) → (reference : NodeId × ℕ) → Contains (outer_references (view_in domains parent kin.over)) reference
    → Contains (node_numbers (view_in domains id kin.domain)) reference.0.0
    → Contains (outer_references (view_in domains id kin.domain)) reference
lies_below domains links facts parent id kin reference among within =
    let parts : OuterParts domains parent kin.over reference = outer_parts domains links facts parent kin.over kin.over_there reference among in
    let before : parent.0 < id.0 = facts.all.before id parent kin.domain kin.there kin.is_parent in
    let higher : parts.link.0.0 < parent.0 = parts.before in
    outer_from_parts domains links facts id kin.domain kin.there reference parts.link within parts.is
    (path_up domains facts.all id parent kin.domain kin.there kin.is_parent parts.link.0 parts.on) (omega arith)

pub outer_lie_below : OuterLieBelow
outer_lie_below plan is parent id above d found_above found child =
    let domains : List Domain = plan.tree.domains in
    let kin : Kin plan parent id above d = kin_of plan is parent id above d found_above found child in
    All-weaker (Contains (outer_references above))
    (λ reference. Contains (node_numbers d) reference.0.0 → Contains (outer_references d) reference)
    (λ reference among within.
    subst (λ (v : Node). Contains (outer_references v) reference) (sym kin.below_is)
    (lies_below domains plan.links kin.facts parent id kin.family reference
    (subst (λ (v : Node). Contains (outer_references v) reference) kin.above_is among)
    (subst (λ (v : Node). Contains (node_numbers v) reference.0.0) kin.below_is within)))
    (outer_references above) (All-contains_itself (outer_references above))
