-- From the answers to the single questions to a plan, and from a plan to what its calls give.
use Rattle.std.proofs.Common.{◌≡◌, ◌≢◌, ◌↔◌, ℕ, zero, suc, ◌+◌, ◌<◌, ◌≤◌, false, List, [], ◌∷◌, Option, None, Some, IsSome, IsSomeAnd, length, map, get_or, slice_get, refl, sym, ap, ◌∙◌, subst, arith}
use Rattle.std.specs.Option.{option_and_then, option_map}
use Rattle.std.proofs.lemmas.List.{length-map}
use Rattle.std.proofs.lemmas.Option.{slice_get-map, get_or_from_slice_get}
use Rattle.cd_base.specs.declared.place.Place.{Place}
use Rattle.cd_base.specs.declared.place.Range.{Range}
use Rattle.cd_base.proofs.ListLemmas.{some_of, some_and}
use Rattle.cd_tree.specs.declared.domain.NodeId.{NodeId}
use Rattle.cd_tree.specs.declared.domain.How.{How}
use Rattle.cd_tree.specs.declared.domain.How.TheVariants.{Copy, Refer, Regen}
use Rattle.cd_tree.specs.declared.domain.Entry.{Entry}
use Rattle.cd_tree.specs.declared.domain.Domain.{Domain}
use Rattle.cd_tree.specs.TreeModel.{TreeModel, IsTree}
use Rattle.cd_tree.specs.Domains.{Node, node, body_by, nodes_from, node_of, root_of}
use Rattle.cd_tree.specs.Limits.{need_limit}
use Rattle.cd_tree.specs.Meaning.{IsCovered, uncovered, node_need}
use Rattle.cd_tree.specs.Legal.{entry_at}
use Rattle.cd_tree.specs.Laws.{CoveredByDomains}
use Rattle.cd_tree.specs.Refusals.{FirstOf, numbered}
use Rattle.cd_tree.proofs.View.{length-nodes_from, domain_here}
use Rattle.cd_cover.specs.Links.{Frame, frames_of, link_in, link_of, by_way, entry_link}
use Rattle.cd_cover.specs.Checks.{EntryOf, NumberedEntryOf, DomainOf}
use Rattle.cd_cover.specs.Plans.{PlanModel, IsPlan, HasFreshLinks, links_of}
use Rattle.cd_cover.proofs.Grounds.{views, roots}

-- ---- no flaw

each_clear : (domains : List Domain) (views : List Node) → FirstOf (DomainOf domains) views None → (k : ℕ) (d : Node) → slice_get views k ≡ Some d
    → DomainOf domains d None
each_clear domains [] clear k d there = absurd (cc)
each_clear domains (view ∷ views) (here, rest) zero d there =
    let same : view ≡ d = cc in
    subst (λ v. DomainOf domains v None) same here
each_clear domains (view ∷ views) (here, rest) (suc k) d there = each_clear domains views rest k d there

leaves_nothing_out : (domains : List Domain) (d : Node) → DomainOf domains d None → (p : Place) → uncovered d p ≡ false
leaves_nothing_out domains (node id domain body) (covered, entries) = covered

pub covered : (tree : TreeModel) → IsTree tree → CoveredByDomains → FirstOf (DomainOf tree.domains) (nodes_from 0 tree.domains) None
    → IsCovered (root_of tree.domains)
covered tree is by_domains clear =
    (by_domains tree is).0
    (λ id d there. leaves_nothing_out tree.domains d (each_clear tree.domains (nodes_from 0 tree.domains) clear id.0 d there))

entry_clear : (id : NodeId) (frames : List Frame) (at : ℕ) (entries : List Entry) → FirstOf (NumberedEntryOf id frames) (numbered at entries) None
    → (k : ℕ) (e : Entry) → slice_get entries k ≡ Some e → EntryOf id frames (at + k) e.range e.how None
entry_clear id frames at [] clear k e there = absurd (cc)
entry_clear id frames at (entry ∷ entries) (here, rest) zero e there =
    let same : entry ≡ e = cc in
    let sum : at + 0 ≡ at = omega arith in
    rw (sum, ← same) here
entry_clear id frames at (entry ∷ entries) (here, rest) (suc k) e there =
    let sum : at + suc k ≡ suc at + k = omega arith in
    rw sum (entry_clear id frames (suc at) entries rest k e there)

pub fresh_links : (tree : TreeModel) → IsTree tree → FirstOf (DomainOf tree.domains) (nodes_from 0 tree.domains) None
    → HasFreshLinks tree
fresh_links tree is clear id at entry there refers =
    let found = entry_in (slice_get tree.domains id.0) at entry there in
    let here : DomainOf tree.domains (node id found.0 (body_by (node_of tree.domains) found.0.items)) None =
    each_clear tree.domains (nodes_from 0 tree.domains) clear id.0 (node id found.0 (body_by (node_of tree.domains) found.0.items))
    (views tree is id found.0 found.1) in
    let one : EntryOf id (frames_of tree.domains id) (0 + at) entry.range entry.how None =
    entry_clear id (frames_of tree.domains id) 0 found.0.entries here.1 at entry found.2 in
    subst (λ how. EntryOf id (frames_of tree.domains id) (0 + at) entry.range how None) refers one
  where
    entry_in : (o : Option Domain) (at : ℕ) (entry : Entry) → option_and_then (λ (domain : Domain). slice_get domain.entries at) o ≡ Some entry
        → (domain : Domain) × (o ≡ Some domain) × (slice_get domain.entries at ≡ Some entry)
    entry_in None at entry is = absurd (cc)
    entry_in (Some domain) at entry is = (domain, refl, is)

-- ---- the root's need

pub root_read : (domains : List Domain) (needs : List ℕ) (v : ℕ) → 0 < length domains → needs ≡ map node_need (nodes_from 0 domains)
    → v ≡ get_or needs 0 v → v ≡ node_need (root_of domains)
root_read [] needs v some is read = absurd (omega arith)
root_read (first ∷ rest) needs v some is read = read ∙ ap (λ (xs : List ℕ). get_or xs 0 v) is

-- ---- what a plan gives: `inside` is the plan by its fields, which is the plan as contracts see it

view_of : (tree : TreeModel) → IsTree tree → (id : NodeId) → id.0 < length tree.domains
    → (domain : Domain) × (slice_get tree.domains id.0 ≡ Some domain)
    × (node_of tree.domains id ≡ Some (node id domain (body_by (node_of tree.domains) domain.items)))
view_of tree is id within =
    let here = domain_here tree.domains id.0 within in
    (here.0, here.1, views tree is id here.0 here.1)

map_read : {B : Type 0} (f : Node → B) (xs : List Node) (k : ℕ) (x : Node) (ys : List B) (y : B) → ys ≡ map f xs → slice_get xs k ≡ Some x
    → y ≡ get_or ys k y → y ≡ f x
map_read f xs k x ys y is there read =
    let found : slice_get ys k ≡ Some (f x) = ap (λ zs. slice_get zs k) is ∙ slice_get-map f xs k ∙ ap (option_map f) there in
    read ∙ get_or_from_slice_get ys k (f x) y found

-- a domain of the plan is one of those inside
pub here_inside : (inside plan : PlanModel) → inside ≡ plan → (id : NodeId) → id.0 < length plan.tree.domains → id.0 < length inside.tree.domains
here_inside inside plan same id within = subst (λ (p : PlanModel). id.0 < length p.tree.domains) (sym same) within

pub needs_within : (inside plan : PlanModel) → inside ≡ plan → IsPlan inside → (id : NodeId) → id.0 < length plan.tree.domains
    → id.0 < length inside.needs
needs_within inside plan same is id here =
    let within : id.0 < length inside.tree.domains = here_inside inside plan same id here in
    let size : length inside.needs ≡ length inside.tree.domains =
    ap length is.need ∙ length-map (nodes_from 0 inside.tree.domains) node_need ∙ length-nodes_from 0 inside.tree.domains in
    omega arith

need_of : (plan : PlanModel) → IsPlan plan → (id : NodeId) → id.0 < length plan.tree.domains
    → (v : ℕ) → v ≡ get_or plan.needs id.0 v → IsSomeAnd (node_of plan.tree.domains id) (λ d. v ≡ node_need d)
need_of plan is id within v read =
    let view = view_of plan.tree is.program id within in
    some_and (node_of plan.tree.domains id) (λ d. v ≡ node_need d) (node id view.0 (body_by (node_of plan.tree.domains) view.0.items)) view.2
    (map_read node_need (nodes_from 0 plan.tree.domains) id.0 (node id view.0 (body_by (node_of plan.tree.domains) view.0.items)) plan.needs v
    is.need view.2 read)

pub need_read : (inside plan : PlanModel) → inside ≡ plan → IsPlan inside → (id : NodeId) → id.0 < length plan.tree.domains
    → (v : ℕ) → v ≡ get_or inside.needs id.0 v → IsSomeAnd (node_of plan.tree.domains id) (λ d. v ≡ node_need d)
need_read inside plan same is id here v read =
    subst (λ (p : PlanModel). IsSomeAnd (node_of p.tree.domains id) (λ d. v ≡ node_need d)) same
    (need_of inside is id (here_inside inside plan same id here) v read)

pub need_fits : (inside plan : PlanModel) → inside ≡ plan → IsPlan inside → (id : NodeId) → id.0 < length plan.tree.domains
    → (v : ℕ) → v ≡ get_or inside.needs id.0 v → v ≤ need_limit
need_fits inside plan same is id here v read =
    let view = some_of (node_of inside.tree.domains id) (λ d. v ≡ node_need d) (need_of inside is id (here_inside inside plan same id here) v read) in
    let below : node_need view.0 ≤ node_need (root_of inside.tree.domains) = roots inside.tree is.program id view.0 view.1 in
    let limit : node_need (root_of inside.tree.domains) ≤ need_limit = is.within in
    let equal : v ≡ node_need view.0 = view.2 in
    omega arith

-- an entry that exists, in its domain
entry_found : (o : Option Domain) (at : ℕ) → IsSome (option_and_then (λ (domain : Domain). slice_get domain.entries at) o)
    → (domain : Domain) × (entry : Entry) × (o ≡ Some domain) × (slice_get domain.entries at ≡ Some entry)
entry_found None at some = absurd (cc)
entry_found (Some domain) at some = entry_some (slice_get domain.entries at) refl some
  where
    entry_some : (e : Option Entry) → slice_get domain.entries at ≡ e → IsSome e
        → (d : Domain) × (entry : Entry) × (Some domain ≡ Some d) × (slice_get d.entries at ≡ Some entry)
    entry_some None is some = absurd (cc)
    entry_some (Some entry) is some = (domain, entry, refl, is)

link_of_row : (plan : PlanModel) → IsPlan plan → (id : NodeId) (at : ℕ) → IsSome (entry_at plan.tree.domains id at)
    → (row : List (Option (NodeId × ℕ))) → row ≡ get_or plan.links id.0 row
    → get_or row at None ≡ link_of plan.tree.domains id at
link_of_row plan is id at some row read =
    let found = entry_found (slice_get plan.tree.domains id.0) at some in
    let view : Node = node id found.0 (body_by (node_of plan.tree.domains) found.0.items) in
    let link : Entry → Option (NodeId × ℕ) = entry_link (frames_of plan.tree.domains id) in
    let whole : row ≡ map link found.0.entries =
    map_read (links_of plan.tree) (nodes_from 0 plan.tree.domains) id.0 view plan.links row is.link
    (views plan.tree is.program id found.0 found.2) read in
    let one : slice_get row at ≡ Some (link found.1) =
    ap (λ (xs : List (Option (NodeId × ℕ))). slice_get xs at) whole ∙ slice_get-map link found.0.entries at ∙ ap (option_map link) found.3 in
    let entry : entry_at plan.tree.domains id at ≡ Some found.1 =
    ap (option_and_then (λ (domain : Domain). slice_get domain.entries at)) found.2 ∙ found.3 in
    get_or_from_slice_get row at (link found.1) None one ∙ sym (ap (option_and_then link) entry)

way_none : (how : How) (r : Range) (frames : List Frame) → (how ≡ Refer → IsSome (link_in r frames))
    → (by_way how None (λ s. link_in s frames) None r ≡ None) ↔ (how ≢ Refer)
way_none Copy r frames linked = (λ none same. absurd (cc), λ differs. refl)
way_none Refer r frames linked = (
  λ none same.
      let some : IsSome (link_in r frames) = linked refl in
      absurd (cc),
  λ differs. absurd (differs refl),
)
way_none (Regen pattern) r frames linked = (λ none same. absurd (cc), λ differs. refl)

none_of_link : (plan : PlanModel) → IsPlan plan → (id : NodeId) (at : ℕ) → IsSome (entry_at plan.tree.domains id at)
    → (link : Option (NodeId × ℕ)) → link ≡ link_of plan.tree.domains id at
    → (link ≡ None) ↔ IsSomeAnd (entry_at plan.tree.domains id at) (λ e. e.how ≢ Refer)
none_of_link plan is id at some link value =
    subst (λ l. (l ≡ None) ↔ IsSomeAnd (entry_at plan.tree.domains id at) (λ e. e.how ≢ Refer)) (sym value)
    (by_entry (entry_at plan.tree.domains id at) refl some)
  where
    by_entry : (o : Option Entry) → entry_at plan.tree.domains id at ≡ o → IsSome o
        → (option_and_then (entry_link (frames_of plan.tree.domains id)) o ≡ None) ↔ IsSomeAnd o (λ e. e.how ≢ Refer)
    by_entry None there some = absurd (cc)
    by_entry (Some e) there some =
        way_none e.how e.range (frames_of plan.tree.domains id) (λ refers. (is.linked id at e there refers).0)

-- a link that is read from its row is none exactly where the entry is no reference
pub link_none : (inside plan : PlanModel) → inside ≡ plan → IsPlan inside → (id : NodeId) (at : ℕ) → IsSome (entry_at plan.tree.domains id at)
    → (row links : List (Option (NodeId × ℕ))) → row ≡ get_or inside.links id.0 row → links ≡ row
    → (get_or links at None ≡ None) ↔ IsSomeAnd (entry_at plan.tree.domains id at) (λ e. e.how ≢ Refer)
link_none inside plan same is id at some row links read all =
    let here : IsSome (entry_at inside.tree.domains id at) = subst (λ (p : PlanModel). IsSome (entry_at p.tree.domains id at)) (sym same) some in
    subst (λ (p : PlanModel). (get_or links at None ≡ None) ↔ IsSomeAnd (entry_at p.tree.domains id at) (λ e. e.how ≢ Refer)) same
    (none_of_link inside is id at here (get_or links at None)
    (ap (λ (xs : List (Option (NodeId × ℕ))). get_or xs at None) all ∙ link_of_row inside is id at here row read))
