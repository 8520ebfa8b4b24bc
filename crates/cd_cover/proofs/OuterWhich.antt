-- Which entries are the outer references of a domain: those of its subtree whose links lie above it.
use Rattle.std.proofs.Common.{IsSomeAnd, ◌≡◌, ◌↔◌, inl, inr, ℕ, zero, suc, ◌+◌, ◌<◌, true, nat_lt, List, [], ◌∷◌, map, Option, None, Some, slice_get, slice_index_or, refl, sym, ap, ◌∙◌, subst, arith}
use Rattle.std.specs.Option.{option_and_then, option_map}
use Rattle.std.specs.List.{Contains, flat_map}
use Rattle.std.proofs.lemmas.Option.{slice_get-map}
use Rattle.std.proofs.lemmas.List.Elements.{Contains-append_left, Contains-append_right, Contains-append_cases, All-weaker, All-contains_itself}
use Rattle.std.proofs.lemmas.Bool.{ltb-true, lt-ltb, cases_Bool}
use Rattle.cd_tree.specs.declared.domain.NodeId.{NodeId}
use Rattle.cd_base.specs.declared.place.Range.{Range}
use Rattle.cd_base.proofs.ListLemmas.{some_of, some_and}
use Rattle.cd_tree.specs.declared.domain.How.{How}
use Rattle.cd_tree.specs.declared.domain.How.TheVariants.{Copy, Refer, Regen}
use Rattle.cd_tree.specs.declared.domain.Entry.{Entry}
use Rattle.cd_tree.specs.declared.domain.Domain.{Domain}
use Rattle.cd_tree.specs.Domains.{Node, node, node_of, node_numbers}
use Rattle.cd_tree.specs.Legal.{entry_at}
use Rattle.cd_tree.specs.Scripts.{path_of}
use Rattle.cd_cover.specs.Links.{Frame, frames_of, link_in, by_way, entry_link, link_of}
use Rattle.cd_cover.specs.Outer.{outer_references}
use Rattle.cd_cover.specs.OuterLaws.{LiesAbove, IsOuter, OuterAreThese, OuterAreReferences, leads_before, leading_before, leading_of}
use Rattle.cd_cover.proofs.Downward.{view_in, domain_behind, contains_first, contains_behind, contains_cases, contains_none}
use Rattle.cd_cover.proofs.PathLemmas.{path_order, top_on_path}
use Rattle.cd_cover.proofs.OuterLemmas.{PlanFacts, plan_facts, outer_listed}

-- ---- one row of links

-- an entry among those whose links lead before a domain
record Leading (first : ℕ) (id : NodeId) (at : ℕ) (links : List (Option (NodeId × ℕ))) (below : NodeId) (k : ℕ) : Type 0 where
  same : id ≡ below
  place : ℕ
  number : k ≡ at + place
  up : NodeId
  kept : ℕ
  link : slice_get links place ≡ Some (Some (up, kept))
  before : up.0 < first

leading_found : (first : ℕ) (id : NodeId) (at : ℕ) (links : List (Option (NodeId × ℕ))) (below : NodeId) (k : ℕ)
    → Contains (leading_before first id at links) (below, k) → Leading first id at links below k
leading_found first id at [] below k among = absurd (contains_none (below, k) among)
leading_found first id at (None ∷ links) below k among =
    let rest : Leading first id (suc at) links below k = leading_found first id (suc at) links below k among in
    let number : k ≡ suc at + rest.place = rest.number in
    record { same = rest.same; place = suc rest.place; number = omega arith; up = rest.up; kept = rest.kept; link = rest.link; before = rest.before }
leading_found first id at (Some (up, kept) ∷ links) below k among =
    elim (cases_Bool (nat_lt up.0 first)) [
      | inl before ↦
          elim (contains_cases (id, at) (leading_before first id (suc at) links) (below, k) (rw before at among)) [
            | inl same ↦
                let number : at ≡ k = ap (λ (x : NodeId × ℕ). x.1) same in
                record {
                  same = ap (λ (x : NodeId × ℕ). x.0) same;
                  place = 0;
                  number = omega arith;
                  up = up;
                  kept = kept;
                  link = refl;
                  before = ltb-true up.0 first before;
                }
            | inr later ↦ next (leading_found first id (suc at) links below k later)
          ]
      | inr not ↦ next (leading_found first id (suc at) links below k (rw not at among))
    ]
  where
    next : Leading first id (suc at) links below k → Leading first id at (Some (up, kept) ∷ links) below k
    next rest =
        let number : k ≡ suc at + rest.place = rest.number in
        record { same = rest.same; place = suc rest.place; number = omega arith; up = rest.up; kept = rest.kept; link = rest.link; before = rest.before }

leading_there : (first : ℕ) (id : NodeId) (at : ℕ) (links : List (Option (NodeId × ℕ))) (place : ℕ) (up : NodeId) (kept : ℕ)
    → slice_get links place ≡ Some (Some (up, kept)) → up.0 < first → (k : ℕ) → k ≡ at + place
    → Contains (leading_before first id at links) (id, k)
leading_there first id at [] place up kept link before k number = absurd (cc)
leading_there first id at (one ∷ links) zero up kept link before k number =
    let same : one ≡ Some (up, kept) = cc in
    let here : k ≡ at = omega arith in
    let test : nat_lt up.0 first ≡ true = lt-ltb up.0 first before in
    rw (same, test, here) (contains_first (id, at) (leading_before first id (suc at) links))
leading_there first id at (one ∷ links) (suc place) up kept link before k number =
    let rest : Contains (leading_before first id (suc at) links) (id, k) =
    leading_there first id (suc at) links place up kept link before k (omega arith) in
    elim (cases_Bool (leads_before first one)) [
      | inl yes_ ↦ rw yes_ (contains_behind (id, at) (leading_before first id (suc at) links) (id, k) rest)
      | inr no_ ↦ rw no_ rest
    ]

-- ---- all rows

flat_found : {X : Type 0} (F : ℕ → List X) (ns : List ℕ) (x : X) → Contains (flat_map F ns) x → (n : ℕ) × Contains ns n × Contains (F n) x
flat_found F [] x among = absurd (contains_none x among)
flat_found F (n ∷ ns) x among =
    elim (Contains-append_cases (F n) (flat_map F ns) x among) [
      | inl here ↦ (n, contains_first n ns, here)
      | inr later ↦
          let rest = flat_found F ns x later in
          (rest.0, contains_behind n ns rest.0 rest.1, rest.2)
    ]

flat_there : {X : Type 0} (F : ℕ → List X) (ns : List ℕ) (x : X) (n : ℕ) → Contains ns n → Contains (F n) x → Contains (flat_map F ns) x
flat_there F [] x n among inside = absurd (contains_none n among)
flat_there F (m ∷ ns) x n among inside =
    elim (contains_cases m ns n among) [
      | inl same ↦ Contains-append_left (F m) (flat_map F ns) x (subst (λ (i : ℕ). Contains (F i) x) (sym same) inside)
      | inr later ↦ Contains-append_right (F m) (flat_map F ns) x (flat_there F ns x n later inside)
    ]

-- ---- links of entries

-- the domain and the entry that have a link
pub record Linked (domains : List Domain) (id : NodeId) (at : ℕ) (link : NodeId × ℕ) : Type 0 where
  pub domain : Domain
  pub there : slice_get domains id.0 ≡ Some domain
  pub entry : Entry
  pub here : slice_get domain.entries at ≡ Some entry
  pub is : entry_link (frames_of domains id) entry ≡ Some link

pub link_behind : (domains : List Domain) (id : NodeId) (at : ℕ) (link : NodeId × ℕ) → link_of domains id at ≡ Some link → Linked domains id at link
link_behind domains id at link is = by_domain (slice_get domains id.0) refl is
  where
    by_entry : (domain : Domain) → slice_get domains id.0 ≡ Some domain → (e : Option Entry) → slice_get domain.entries at ≡ e
        → option_and_then (entry_link (frames_of domains id)) e ≡ Some link → Linked domains id at link
    by_entry domain there None here link_is = absurd (cc)
    by_entry domain there (Some entry) here link_is = record { domain = domain; there = there; entry = entry; here = here; is = link_is }

    by_domain : (o : Option Domain) → slice_get domains id.0 ≡ o
        → option_and_then (entry_link (frames_of domains id)) (option_and_then (λ (domain : Domain). slice_get domain.entries at) o) ≡ Some link
        → Linked domains id at link
    by_domain None there link_is = absurd (cc)
    by_domain (Some domain) there link_is = by_entry domain there (slice_get domain.entries at) refl link_is

pub link_at : (domains : List Domain) (id : NodeId) (at : ℕ) (domain : Domain) → slice_get domains id.0 ≡ Some domain
    → link_of domains id at ≡ option_and_then (entry_link (frames_of domains id)) (slice_get domain.entries at)
link_at domains id at domain there =
    ap
    (λ (o : Option Domain).
    option_and_then (entry_link (frames_of domains id)) (option_and_then (λ (d : Domain). slice_get d.entries at) o))
    there

-- an entry's link in a row of links
row_link : (f : Entry → Option (NodeId × ℕ)) (o : Option Entry) (link : NodeId × ℕ) → option_map f o ≡ Some (Some link)
    → option_and_then f o ≡ Some link
row_link f None link is = absurd (cc)
row_link f (Some entry) link is = same (f entry) is
  where
    same : (l : Option (NodeId × ℕ)) → Some l ≡ Some (Some link) → l ≡ Some link
    same l is = cc

link_row : (f : Entry → Option (NodeId × ℕ)) (entries : List Entry) (at : ℕ) (entry : Entry) (link : NodeId × ℕ)
    → slice_get entries at ≡ Some entry → f entry ≡ Some link → slice_get (map f entries) at ≡ Some (Some link)
link_row f entries at entry link here is = slice_get-map f entries at ∙ ap (option_map f) here ∙ ap Some is

-- ---- the outer references of a domain

outer_is_there : (domains : List Domain) (links : List (List (Option (NodeId × ℕ)))) → PlanFacts domains links
    → (id : NodeId) (domain : Domain) → slice_get domains id.0 ≡ Some domain → (below : NodeId) (at : ℕ)
    → Contains (outer_references (view_in domains id domain)) (below, at) → IsOuter domains (view_in domains id domain) (below, at)
outer_is_there domains links facts id domain there below at among =
    let numbers : List ℕ = node_numbers (view_in domains id domain) in
    let found = flat_found (leading_of links id.0) numbers (below, at)
    (subst (λ (xs : List (NodeId × ℕ)). Contains xs (below, at)) (outer_listed domains links facts id domain there) among) in
    let number : NodeId = record { 0 = found.0 } in
    let one : Leading id.0 number 0 (slice_index_or links found.0 []) below at =
    leading_found id.0 number 0 (slice_index_or links found.0 []) below at found.2 in
    let within : Contains numbers below.0 = subst (λ (i : NodeId). Contains numbers i.0) one.same found.1 in
    let last = facts.here id domain there below.0 within in
    let f : Entry → Option (NodeId × ℕ) = entry_link (frames_of domains below) in
    let row : slice_index_or links found.0 [] ≡ map f last.0.entries =
    ap (λ (i : NodeId). slice_index_or links i.0 []) one.same ∙ facts.row below last.0 last.1 in
    let place : one.place ≡ at = let number_is : at ≡ 0 + one.place = one.number in omega arith in
    let linked : link_of domains below at ≡ Some (one.up, one.kept) =
    link_at domains below at last.0 last.1
    ∙ row_link f (slice_get last.0.entries at) (one.up, one.kept)
    (sym (slice_get-map f last.0.entries at)
    ∙ ap (slice_get (map f last.0.entries)) (sym place)
    ∙ ap (λ (xs : List (Option (NodeId × ℕ))). slice_get xs one.place) (sym row)
    ∙ one.link) in
    let before : one.up.0 < id.0 = one.before in
    let on : Contains (path_of domains id) one.up =
    path_order domains facts.all below last.0 last.1 id one.up (top_on_path domains facts.all id domain there below last.0 last.1 within)
    (facts.lead below one.up at one.kept linked).0 (omega arith) in (
      within,
      some_and (link_of domains below at) (λ link. LiesAbove domains id link.0) (one.up, one.kept) linked (on, before),
    )

outer_was_there : (domains : List Domain) (links : List (List (Option (NodeId × ℕ)))) → PlanFacts domains links
    → (id : NodeId) (domain : Domain) → slice_get domains id.0 ≡ Some domain → (below : NodeId) (at : ℕ)
    → IsOuter domains (view_in domains id domain) (below, at) → Contains (outer_references (view_in domains id domain)) (below, at)
outer_was_there domains links facts id domain there below at (within, leads) =
    let link = some_of (link_of domains below at) (λ l. LiesAbove domains id l.0) leads in
    let one : Linked domains below at link.0 = link_behind domains below at link.0 link.1 in
    let f : Entry → Option (NodeId × ℕ) = entry_link (frames_of domains below) in
    let row : slice_get (slice_index_or links below.0 []) at ≡ Some (Some link.0) =
    ap (λ (xs : List (Option (NodeId × ℕ))). slice_get xs at) (facts.row below one.domain one.there)
    ∙ link_row f one.domain.entries at one.entry link.0 one.here one.is in
    subst (λ (xs : List (NodeId × ℕ)). Contains xs (below, at)) (sym (outer_listed domains links facts id domain there))
    (flat_there (leading_of links id.0) (node_numbers (view_in domains id domain)) (below, at) below.0 within
    (leading_there id.0 below 0 (slice_index_or links below.0 []) at link.0.0 link.0.1 row link.2.1 at (omega arith)))

pub outer_exactly : (domains : List Domain) (links : List (List (Option (NodeId × ℕ)))) → PlanFacts domains links
    → (id : NodeId) (d : Node) → node_of domains id ≡ Some d → (reference : NodeId × ℕ)
    → Contains (outer_references d) reference ↔ IsOuter domains d reference
outer_exactly domains links facts id d found (below, at) =
    let top = domain_behind domains id d found in
    subst (λ (v : Node). Contains (outer_references v) (below, at) ↔ IsOuter domains v (below, at)) (sym (top.2 facts.all)) (
      outer_is_there domains links facts id top.0 top.1 below at,
      outer_was_there domains links facts id top.0 top.1 below at,
    )

pub outer_are_these : OuterAreThese
outer_are_these plan is id d found reference =
    outer_exactly plan.tree.domains plan.links (plan_facts plan is) id d found reference

-- ---- each is a reference

-- an entry with a link is a reference
pub reference_of : (how : How) (r : Range) (frames : List Frame) (link : NodeId × ℕ) → by_way how None (λ s. link_in s frames) None r ≡ Some link
    → (how ≡ Refer) × (link_in r frames ≡ Some link)
reference_of Copy r frames link is = absurd (cc)
reference_of Refer r frames link is = (refl, is)
reference_of (Regen pattern) r frames link is = absurd (cc)

outer_is_reference : (domains : List Domain) (d : Node) (reference : NodeId × ℕ) → IsOuter domains d reference
    → IsSomeAnd (entry_at domains reference.0 reference.1) (λ entry. entry.how ≡ Refer)
outer_is_reference domains (node id domain body) (below, at) outer =
    let link = some_of (link_of domains below at) (λ l. LiesAbove domains id l.0) outer.1 in
    let one : Linked domains below at link.0 = link_behind domains below at link.0 link.1 in
    some_and (entry_at domains below at) (λ entry. entry.how ≡ Refer) one.entry
    (ap (option_and_then (λ (d : Domain). slice_get d.entries at)) one.there ∙ one.here)
    (reference_of one.entry.how one.entry.range (frames_of domains below) link.0 one.is).0

pub outer_are_references : OuterAreReferences
outer_are_references plan is id d found =
    All-weaker (Contains (outer_references d))
    (λ reference. IsSomeAnd (entry_at plan.tree.domains reference.0 reference.1) (λ entry. entry.how ≡ Refer))
    (λ reference among. outer_is_reference plan.tree.domains d reference ((outer_are_these plan is id d found reference).0 among))
    (outer_references d) (All-contains_itself (outer_references d))
