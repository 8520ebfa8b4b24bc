-- A walk from a domain's first entry to the end of its slice comes to the domain's outer references.
use Rattle.std.proofs.Common.{◌≡◌, ℕ, ◌+◌, ◌-◌, ◌<◌, ◌≤◌, List, Option, Some, IsSomeAnd, length, sym, ap, ◌∙◌, subst, arith}
use Rattle.std.specs.Option.{option_map_or}
use Rattle.std.specs.List.{flat_map}
use Rattle.std.proofs.lemmas.List.{length-map}
use Rattle.cd_base.proofs.ListLemmas.{some_and}
use Rattle.cd_tree.specs.declared.domain.NodeId.{NodeId}
use Rattle.cd_tree.specs.Domains.{Node, nodes_from, node_of, node_numbers, numbers_from}
use Rattle.cd_tree.specs.Limits.{domains_limit}
use Rattle.cd_tree.specs.Slices.{node_size, slice_end}
use Rattle.cd_tree.proofs.View.{length-nodes_from, domain_here}
use Rattle.cd_cover.specs.Outer.{outer_references}
use Rattle.cd_cover.specs.OuterLaws.{leading_of}
use Rattle.cd_cover.specs.OuterLeft.{IsWithin, left_at}
use Rattle.cd_cover.specs.Plans.{PlanModel, IsPlan, links_of}
use Rattle.cd_cover.proofs.Downward.{view_in}
use Rattle.cd_cover.proofs.OuterSteps.{whole_left}
use Rattle.cd_cover.proofs.Grounds.{views, slices, slices_end}
use Rattle.cd_cover.proofs.PlanLemmas.{here_inside}
use Rattle.cd_cover.proofs.OuterLemmas.{outer_in_order}

-- the walk's position is within the rows of links, and the walk is not empty
pub walk_within : (inside plan : PlanModel) → inside ≡ plan → IsPlan inside → (id : NodeId) → id.0 < length plan.tree.domains → (end : ℕ)
    → end ≡ slice_end inside.tree.domains id → (rows : List (List (Option (NodeId × ℕ)))) → rows ≡ inside.links
    → (id.0 < end) × IsWithin rows (record { node = id.0; entry = 0; left = end - id.0 })
walk_within inside plan same is id here end at rows all =
    let within : id.0 < length inside.tree.domains = here_inside inside plan same id here in
    let size : length rows ≡ length inside.tree.domains =
    ap length (all ∙ is.link) ∙ length-map (nodes_from 0 inside.tree.domains) (links_of inside.tree) ∙ length-nodes_from 0 inside.tree.domains in
    let few : length inside.tree.domains ≤ domains_limit = is.program.few in
    let bounds : (id.0 < slice_end inside.tree.domains id) × (slice_end inside.tree.domains id ≤ length inside.tree.domains) =
    slices_end inside.tree is.program id within in
    (omega arith, (omega arith, omega arith))

comes_to : (plan : PlanModel) → IsPlan plan → (id : NodeId) → id.0 < length plan.tree.domains → (end : ℕ) → end ≡ slice_end plan.tree.domains id
    → IsSomeAnd (node_of plan.tree.domains id) (λ d.
    left_at plan.links id.0 (record { node = id.0; entry = 0; left = end - id.0 }) ≡ outer_references d)
comes_to plan is id within end at =
    let here = domain_here plan.tree.domains id.0 within in
    let view : Node = view_in plan.tree.domains id here.0 in
    let found : node_of plan.tree.domains id ≡ Some view = views plan.tree is.program id here.0 here.1 in
    let size : slice_end plan.tree.domains id ≡ id.0 + length (node_numbers view) =
    ap (λ (o : Option Node). id.0 + option_map_or node_size o 0) found in
    let left : end - id.0 ≡ length (node_numbers view) = omega arith in
    some_and (node_of plan.tree.domains id)
    (λ d. left_at plan.links id.0 (record { node = id.0; entry = 0; left = end - id.0 }) ≡ outer_references d) view found
    (whole_left plan.links id.0 id.0 (end - id.0)
    ∙ ap (λ (n : ℕ). flat_map (leading_of plan.links id.0) (numbers_from id.0 n)) left
    ∙ ap (flat_map (leading_of plan.links id.0)) (sym (slices plan.tree is.program id view found))
    ∙ sym (outer_in_order plan is id view found))

-- what is left at the beginning of the walk are the domain's outer references
pub walk_comes_to : (inside plan : PlanModel) → inside ≡ plan → IsPlan inside → (id : NodeId) → id.0 < length plan.tree.domains → (end : ℕ)
    → end ≡ slice_end inside.tree.domains id → (rows : List (List (Option (NodeId × ℕ)))) → rows ≡ inside.links
    → (walk : List (NodeId × ℕ)) → walk ≡ left_at rows id.0 (record { node = id.0; entry = 0; left = end - id.0 })
    → IsSomeAnd (node_of plan.tree.domains id) (λ d. walk ≡ outer_references d)
walk_comes_to inside plan same is id here end at rows all walk begins =
    let left : List (List (Option (NodeId × ℕ))) → List (NodeId × ℕ) = λ xs. left_at xs id.0 (record { node = id.0; entry = 0; left = end - id.0 }) in
    subst (λ (p : PlanModel). IsSomeAnd (node_of p.tree.domains id) (λ d. walk ≡ outer_references d)) same
    (subst (λ (xs : List (NodeId × ℕ)). IsSomeAnd (node_of inside.tree.domains id) (λ d. xs ≡ outer_references d)) (sym (begins ∙ ap left all))
    (comes_to inside is id (here_inside inside plan same id here) end at))
