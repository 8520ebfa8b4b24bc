-- The outer references of a domain are, domain by domain of its subtree, the entries whose links lead before it.
use Rattle.std.proofs.Common.{◌≡◌, inl, inr, ℕ, suc, ◌<◌, ◌≤◌, Bool, true, false, ◌&&◌, nat_lt, List, [], ◌∷◌, ◌++◌, map, Option, None, Some, IsSome, is_none, slice_get, slice_index_or, if◌then◌else◌, refl, sym, ap, ◌∙◌, subst, arith}
use Rattle.std.specs.Option.{option_and_then, option_map}
use Rattle.std.specs.List.{Contains, flat_map}
use Rattle.std.proofs.lemmas.Grind.{flat_map-append}
use Rattle.std.proofs.lemmas.Option.{slice_get-map, get_or_from_slice_get}
use Rattle.std.proofs.lemmas.Bool.{ltb-true, lt-ltb, cases_Bool}
use Rattle.cd_base.specs.declared.place.Range.{Range}
use Rattle.cd_tree.specs.declared.domain.NodeId.{NodeId}
use Rattle.cd_tree.specs.declared.domain.Item.{Item}
use Rattle.cd_tree.specs.declared.domain.Item.TheVariants.{Run, Group}
use Rattle.cd_tree.specs.declared.domain.How.{How}
use Rattle.cd_tree.specs.declared.domain.How.TheVariants.{Copy, Refer, Regen}
use Rattle.cd_tree.specs.declared.domain.Entry.{Entry}
use Rattle.cd_tree.specs.declared.domain.Domain.{Domain}
use Rattle.cd_tree.specs.TreeModel.{FitsItems, NamesChildren}
use Rattle.cd_tree.specs.Domains.{Node, Members, put_first, members_by, body_by, nodes_from, node_of, number_of, node_numbers, body_numbers, member_numbers}
use Rattle.cd_tree.specs.Legal.{entry_at}
use Rattle.cd_tree.specs.Scripts.{path_of}
use Rattle.cd_cover.specs.Links.{Frame, frame_over, frames_of, holder, link_in, entry_link, by_way, link_of}
use Rattle.cd_cover.specs.Outer.{is_reference, leading_out, frame_at, node_outer, body_outer, members_outer, outer_references}
use Rattle.cd_cover.specs.Plans.{PlanModel, IsPlan, links_of}
use Rattle.cd_cover.specs.OuterLaws.{leads_before, leading_before, leading_of, OuterInOrder}
use Rattle.cd_cover.proofs.LinkLemmas.{leads_at, links_lead}
use Rattle.cd_cover.proofs.Downward.{Known, known_of, view_in, domain_behind, Child, downward, child_of_group, contains_first, numbers_cases}
use Rattle.cd_cover.proofs.Grounds.{views}
use Rattle.cd_cover.proofs.Frames.{frames_go_up}

-- ---- one domain

-- whether a link leads before a domain, or there is none
abbrev goes_out : ℕ → Option (NodeId × ℕ) → Bool
goes_out first None = true
goes_out first (Some (up, k)) = nat_lt up.0 first

-- the frames that a search goes through inside, and all that lie over the domain: what is not found inside leads out
abbrev Parted : ℕ → List Frame → List Frame → Type 0
Parted first inner frames = (r : Range) → is_none (link_in r inner) ≡ goes_out first (link_in r frames)

leads_same : (first : ℕ) (inner frames : List Frame) → Parted first inner frames → (how : How) (r : Range)
    → (how ≡ Refer → IsSome (link_in r frames))
    → (is_reference how && is_none (link_in r inner)) ≡ leads_before first (by_way how None (λ s. link_in s frames) None r)
leads_same first inner frames parted Copy r linked = refl
leads_same first inner frames parted Refer r linked = parted r ∙ found (link_in r frames) (linked refl)
  where
    found : (link : Option (NodeId × ℕ)) → IsSome link → goes_out first link ≡ leads_before first link
    found None some = absurd (cc)
    found (Some (up, k)) some = refl
leads_same first inner frames parted (Regen pattern) r linked = refl

leading_same : (first : ℕ) (inner frames : List Frame) → Parted first inner frames → (id : NodeId) (at : ℕ) (entries : List Entry)
    → ((k : ℕ) (entry : Entry) → slice_get entries k ≡ Some entry → entry.how ≡ Refer → IsSome (link_in entry.range frames))
    → leading_out inner id at entries ≡ leading_before first id at (map (entry_link frames) entries)
leading_same first inner frames parted id at [] linked = refl
leading_same first inner frames parted id at (entry ∷ entries) linked =
    let rest : leading_out inner id (suc at) entries ≡ leading_before first id (suc at) (map (entry_link frames) entries) =
    leading_same first inner frames parted id (suc at) entries (λ k. linked (suc k)) in
    let test : (is_reference entry.how && is_none (link_in entry.range inner)) ≡ leads_before first (entry_link frames entry) =
    leads_same first inner frames parted entry.how entry.range (linked 0 entry refl) in
    ap
    (λ (b : Bool). if b then (id, at) ∷ leading_out inner id (suc at) entries else leading_out inner id (suc at) entries)
    test
    ∙ ap
    (λ (xs : List (NodeId × ℕ)). if leads_before first (entry_link frames entry) then (id, at) ∷ xs else xs)
    rest

-- ---- from a domain to a child

found_here : (r : Range) (first : ℕ) (inner frames : List Frame) (id : NodeId) (domain : Domain) (over : Frame) → over.node ≡ id
    → over.entries ≡ domain.entries → first ≤ id.0 → is_none (link_in r inner) ≡ goes_out first (link_in r frames)
    → (h : Option (ℕ × Entry)) → holder r 0 domain.entries ≡ h
    → is_none (link_in r (frame_at id domain ∷ inner)) ≡ goes_out first (link_in r (over ∷ frames))
found_here r first inner frames id domain over seen entries below parted None is =
    let there : holder r 0 over.entries ≡ None = ap (holder r 0) entries ∙ is in
    rw (is, there) parted
found_here r first inner frames id domain over seen entries below parted (Some (k, entry)) is =
    let there : holder r 0 over.entries ≡ Some (k, entry) = ap (holder r 0) entries ∙ is in
    rw (is, there, seen) (not_before id.0 first below)
  where
    not_before : (n first : ℕ) → first ≤ n → false ≡ nat_lt n first
    not_before n first below =
        elim (cases_Bool (nat_lt n first)) [
          | inl less ↦ absurd (omega (arith, ltb-true n first less))
          | inr not ↦ sym not
        ]

-- ---- all domains of a plan

-- what is known of the domains of a plan, and of its links
pub record PlanFacts (domains : List Domain) (links : List (List (Option (NodeId × ℕ)))) : Type 0 where
  pub all : Known domains
  pub up :
      (id parent : NodeId) (domain over : Domain) → slice_get domains id.0 ≡ Some domain → domain.parent ≡ Some parent
      → slice_get domains parent.0 ≡ Some over
      → frames_of domains id ≡ frame_over id.0 (view_in domains parent over) ∷ frames_of domains parent
  pub leads :
      (id : NodeId) (domain : Domain) → slice_get domains id.0 ≡ Some domain → (r : Range) (up : NodeId) (k : ℕ)
      → link_in r (frames_of domains id) ≡ Some (up, k) → Contains (path_of domains id) up × (up.0 < id.0)
  pub linked :
      (id : NodeId) (domain : Domain) → slice_get domains id.0 ≡ Some domain → (k : ℕ) (entry : Entry)
      → slice_get domain.entries k ≡ Some entry → entry.how ≡ Refer → IsSome (link_in entry.range (frames_of domains id))
  pub lead :
      (id up : NodeId) (at k : ℕ) → link_of domains id at ≡ Some (up, k) → Contains (path_of domains id) up × (up.0 < id.0)
  pub here :
      (id : NodeId) (domain : Domain) → slice_get domains id.0 ≡ Some domain → (n : ℕ) → Contains (node_numbers (view_in domains id domain)) n
      → (last : Domain) × (slice_get domains n ≡ Some last)
  pub row :
      (id : NodeId) (domain : Domain) → slice_get domains id.0 ≡ Some domain
      → slice_index_or links id.0 [] ≡ map (entry_link (frames_of domains id)) domain.entries

entry_of : (f : Entry → Option (NodeId × ℕ)) (o : Option Entry) (link : NodeId × ℕ) → option_and_then f o ≡ Some link
    → (entry : Entry) × (o ≡ Some entry)
entry_of f None link is = absurd (cc)
entry_of f (Some entry) link is = (entry, refl)

-- the domains whose numbers a subtree has are there
numbers_there : (domains : List Domain) → Known domains → (id : NodeId) (domain : Domain) → slice_get domains id.0 ≡ Some domain
    → (n : ℕ) → Contains (node_numbers (view_in domains id domain)) n → (last : Domain) × (slice_get domains n ≡ Some last)
numbers_there domains all =
    downward domains
    (λ id domain. (n : ℕ) → Contains (node_numbers (view_in domains id domain)) n → (last : Domain) × (slice_get domains n ≡ Some last))
    (λ id domain there rest n among.
    elim (numbers_cases domains all id domain there n among) [
      | inl same ↦ (domain, subst (λ k. slice_get domains k ≡ Some domain) same there)
      | inr found ↦ rest found.id found.child.domain found.child.later found.child.there n found.among
    ])

pub plan_facts : (plan : PlanModel) → IsPlan plan
    → PlanFacts plan.tree.domains plan.links
plan_facts plan is =
    record {
      all = known_of plan.tree is.program;
      up = frames_go_up plan.tree is.program;
      leads = λ id domain there r up k link.
          let found = leads_at plan.tree is.program (suc id.0) id domain (omega arith) there r up k link in
          (found.0, found.1);
      linked = λ id domain there k entry here refers.
          (is.linked id k entry (ap (option_and_then (λ (d : Domain). slice_get d.entries k)) there ∙ here) refers).0;
      lead = λ id up at k link.
          let entry = entry_of (entry_link (frames_of plan.tree.domains id)) (entry_at plan.tree.domains id at) (up, k) link in
          let found = links_lead plan.tree is.program id up at k entry.0 entry.1 link in
          (found.0, found.1);
      here = numbers_there plan.tree.domains (known_of plan.tree is.program);
      row = λ id domain there.
          let whole : slice_get plan.links id.0 ≡ Some (map (entry_link (frames_of plan.tree.domains id)) domain.entries) =
          ap (λ (rows : List (List (Option (NodeId × ℕ)))). slice_get rows id.0) is.link
          ∙ slice_get-map (links_of plan.tree) (nodes_from 0 plan.tree.domains) id.0
          ∙ ap (option_map (links_of plan.tree)) (views plan.tree is.program id domain there) in
          get_or_from_slice_get plan.links id.0 (map (entry_link (frames_of plan.tree.domains id)) domain.entries) [] whole;
    }

-- the frames inside a domain, as they stand over one that lies in it
record Inside (domains : List Domain) (first : ℕ) (inner : List Frame) (id : NodeId) : Type 0 where
  low : first ≤ id.0
  parted : Parted first inner (frames_of domains id)

inside_child : (domains : List Domain) (links : List (List (Option (NodeId × ℕ)))) → PlanFacts domains links → (first : ℕ) (inner : List Frame)
    → (id : NodeId) (domain : Domain) → slice_get domains id.0 ≡ Some domain → Inside domains first inner id
    → (child : NodeId) (c : Child domains id.0 child) → Inside domains first (frame_at id domain ∷ inner) child
inside_child domains links facts first inner id domain there inside child c =
    let low : first ≤ id.0 = inside.low in
    let later : id.0 < child.0 = c.later in
    record {
      low = omega arith;
      parted = λ r.
          found_here r first inner (frames_of domains id) id domain (frame_over child.0 (view_in domains id domain)) refl refl inside.low
          (inside.parted r) (holder r 0 domain.entries) refl
          ∙ ap (λ (fs : List Frame). goes_out first (link_in r fs)) (sym (facts.up child id c.domain domain c.there c.parent there));
    }

-- the outer references in each child of a domain are listed domain by domain
abbrev ChildrenListed : List Domain → (ℕ → List (NodeId × ℕ)) → ℕ → List Frame → Type 0
ChildrenListed domains F at inner =
    (child : NodeId) (c : Child domains at child)
    → node_outer inner (view_in domains child c.domain) ≡ flat_map F (node_numbers (view_in domains child c.domain))

outer_of_group : (domains : List Domain) → Known domains → (F : ℕ → List (NodeId × ℕ)) (at : ℕ) (inner : List Frame) (ids : List NodeId)
    → NamesChildren domains at ids
    → ChildrenListed domains F at inner
    → members_outer inner (members_by (node_of domains) ids) ≡ flat_map F (member_numbers (members_by (node_of domains) ids))
outer_of_group domains all F at inner [] named each = refl
outer_of_group domains all F at inner (first ∷ ids) named each =
    let child : Child domains at first = child_of_group domains at (first ∷ ids) named first (contains_first first ids) in
    let view : Node = view_in domains first child.domain in
    let rest : Members = members_by (node_of domains) ids in
    let found : node_of domains first ≡ Some view = all.view first child.domain child.there in
    ap (λ (o : Option Node). members_outer inner (put_first o rest)) found
    ∙ ap (λ (xs : List (NodeId × ℕ)). xs ++ members_outer inner rest) (each first child)
    ∙ ap (λ (xs : List (NodeId × ℕ)). flat_map F (node_numbers view) ++ xs) (outer_of_group domains all F at inner ids named.2 each)
    ∙ sym (flat_map-append F (node_numbers view) (member_numbers rest))
    ∙ ap (λ (o : Option Node). flat_map F (member_numbers (put_first o rest))) (sym found)

outer_of_items : (domains : List Domain) → Known domains → (F : ℕ → List (NodeId × ℕ)) (at : ℕ) (inner : List Frame) (items : List Item)
    → FitsItems domains at items
    → ChildrenListed domains F at inner
    → body_outer inner (body_by (node_of domains) items) ≡ flat_map F (body_numbers (body_by (node_of domains) items))
outer_of_items domains all F at inner [] fits each = refl
outer_of_items domains all F at inner (Run op ∷ items) fits each = outer_of_items domains all F at inner items fits.2 each
outer_of_items domains all F at inner (Group ids ∷ items) fits each =
    ap (λ (xs : List (NodeId × ℕ)). xs ++ body_outer inner (body_by (node_of domains) items))
    (outer_of_group domains all F at inner ids fits.2 each)
    ∙ ap (λ (xs : List (NodeId × ℕ)). flat_map F (member_numbers (members_by (node_of domains) ids)) ++ xs)
    (outer_of_items domains all F at inner items fits.3 each)
    ∙ sym (flat_map-append F (member_numbers (members_by (node_of domains) ids)) (body_numbers (body_by (node_of domains) items)))

outer_inside : (domains : List Domain) (links : List (List (Option (NodeId × ℕ)))) → PlanFacts domains links → (first : ℕ)
    → (id : NodeId) (domain : Domain) → slice_get domains id.0 ≡ Some domain → (inner : List Frame) → Inside domains first inner id
    → node_outer inner (view_in domains id domain) ≡ flat_map (leading_of links first) (node_numbers (view_in domains id domain))
outer_inside domains links facts first =
    downward domains
    (λ id domain.
    (inner : List Frame) → Inside domains first inner id
    → node_outer inner (view_in domains id domain) ≡ flat_map (leading_of links first) (node_numbers (view_in domains id domain)))
    (λ id domain there rest inner inside.
    ap (λ (xs : List (NodeId × ℕ)). xs ++ body_outer (frame_at id domain ∷ inner) (body_by (node_of domains) domain.items))
    (leading_same first inner (frames_of domains id) inside.parted id 0 domain.entries (facts.linked id domain there)
    ∙ ap (leading_before first id 0) (sym (facts.row id domain there)))
    ∙ ap (λ (xs : List (NodeId × ℕ)). leading_of links first id.0 ++ xs)
    (outer_of_items domains facts.all (leading_of links first) id.0 (frame_at id domain ∷ inner) domain.items
    (facts.all.fits id domain there)
    (λ child c.
    rest child c.domain c.later c.there (frame_at id domain ∷ inner)
    (inside_child domains links facts first inner id domain there inside child c))))

-- a domain itself: all its links lead out
outermost : (domains : List Domain) (links : List (List (Option (NodeId × ℕ)))) → PlanFacts domains links → (id : NodeId) (domain : Domain)
    → slice_get domains id.0 ≡ Some domain → Inside domains id.0 [] id
outermost domains links facts id domain there =
    record { low = omega arith; parted = λ r. out (link_in r (frames_of domains id)) (λ up k link. (facts.leads id domain there r up k link).1) }
  where
    out : (link : Option (NodeId × ℕ)) → ((up : NodeId) (k : ℕ) → link ≡ Some (up, k) → up.0 < id.0) → true ≡ goes_out id.0 link
    out None before = refl
    out (Some (up, k)) before = sym (lt-ltb up.0 id.0 (before up k refl))

pub outer_listed : (domains : List Domain) (links : List (List (Option (NodeId × ℕ)))) → PlanFacts domains links → (id : NodeId) (domain : Domain)
    → slice_get domains id.0 ≡ Some domain
    → outer_references (view_in domains id domain) ≡ flat_map (leading_of links id.0) (node_numbers (view_in domains id domain))
outer_listed domains links facts id domain there =
    outer_inside domains links facts id.0 id domain there [] (outermost domains links facts id domain there)

pub outer_in_order : OuterInOrder
outer_in_order plan is id d found =
    let facts : PlanFacts plan.tree.domains plan.links = plan_facts plan is in
    let top = domain_behind plan.tree.domains id d found in
    subst (λ (v : Node). outer_references v ≡ flat_map (leading_of plan.links (number_of v)) (node_numbers v)) (sym (top.2 facts.all))
    (outer_listed plan.tree.domains plan.links facts id top.0 top.1)
