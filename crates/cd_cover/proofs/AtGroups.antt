-- Where a domain waits for a group, the ranges of the members' outer references have the words with which it began.
use Rattle.std.proofs.Common.{◌≡◌, ◌⊎◌, inl, inr, ℕ, zero, suc, ◌<◌, ◌≤◌, Bool, true, false, ◌&&◌, ◌||◌, ◌==◌, nat_le, nat_lt, List, [], ◌∷◌, Option, Some, slice_get, refl, sym, ap, ◌∙◌, subst, arith}
use Rattle.std.specs.List.{Contains, list_any}
use Rattle.std.proofs.lemmas.Bool.{cases_Bool, and_parts, and_from, eqb-true, eq-eqb, leb-true, le-leb, ltb-true, lt-ltb}
use Rattle.std.proofs.lemmas.Option.{slice_get_within, slice_get-get_or, get_or_from_slice_get}
use Rattle.std.proofs.lemmas.List.Elements.{All-contains}
use Rattle.cd_base.specs.declared.place.Place.{Place}
use Rattle.cd_base.specs.declared.place.Range.{Range}
use Rattle.cd_base.specs.Words.{Words, in_range}
use Rattle.cd_base.proofs.ListLemmas.{some_of, some_and}
use Rattle.cd_tree.specs.declared.domain.NodeId.{NodeId}
use Rattle.cd_tree.specs.declared.domain.Item.{Item}
use Rattle.cd_tree.specs.declared.domain.Item.TheVariants.{Run, Group}
use Rattle.cd_tree.specs.declared.domain.Domain.{Domain}
use Rattle.cd_tree.specs.declared.groups.GroupPlace.{GroupPlace}
use Rattle.cd_tree.specs.Operations.{op_writes}
use Rattle.cd_tree.specs.TreeModel.{FitsItems}
use Rattle.cd_tree.specs.Domains.{Node, body_of, body_by, members_by, node_of}
use Rattle.cd_tree.specs.FirstItems.{first_items, waiting_words}
use Rattle.cd_tree.specs.Groups.{HasMember, StandsAt, StandsIn}
use Rattle.cd_tree.specs.Legal.{entry_at}
use Rattle.cd_tree.specs.Locality.{SameWords}
use Rattle.cd_tree.specs.Meaning.{body_writes, member_writes}
use Rattle.cd_cover.specs.Links.{has_member, written_before, link_of, holds_range}
use Rattle.cd_cover.specs.Laws.{HoldsLink}
use Rattle.cd_cover.specs.Outer.{outer_references}
use Rattle.cd_cover.specs.Plans.{PlanModel, IsPlan}
use Rattle.cd_cover.specs.OuterLaws.{IsChild, LinksTo}
use Rattle.cd_cover.specs.KeptWords.{WrittenByFirstItems, OuterWordsStay, AgreeWithLinks, AgreeWithEntries, LinksServeMembers}
use Rattle.cd_cover.proofs.Views.{has_member-members_by}
use Rattle.cd_cover.proofs.Downward.{Known, known_of, domain_behind, same_id, contains_first, contains_behind, contains_cases, contains_none}
use Rattle.cd_cover.proofs.Grounds.{leaves, once, children}
use Rattle.cd_cover.proofs.LinkLemmas.{links_lead}
use Rattle.cd_cover.proofs.OuterMembers.{outer_of_members}
use Rattle.cd_cover.proofs.Fresh.{outer_are_fresh}

-- ---- the items before a group

any_of_contains : (ids : List NodeId) (id : NodeId) → Contains ids id → list_any (λ (m : NodeId). m.0 == id.0) ids ≡ true
any_of_contains [] id among = absurd (contains_none id among)
any_of_contains (first ∷ ids) id among =
    elim (contains_cases first ids id among) [
      | inl same ↦
          let test : (first.0 == id.0) ≡ true = eq-eqb first.0 id.0 (ap (λ (i : NodeId). i.0) same) in
          rw test
      | inr later ↦ or_second (first.0 == id.0) (list_any (λ (m : NodeId). m.0 == id.0) ids) (any_of_contains ids id later)
    ]
  where
    or_second : (a b : Bool) → b ≡ true → (a || b) ≡ true
    or_second true b is = refl
    or_second false b is = is

contains_of_any : (ids : List NodeId) (id : NodeId) → list_any (λ (m : NodeId). m.0 == id.0) ids ≡ true → Contains ids id
contains_of_any [] id any = absurd (cc)
contains_of_any (first ∷ ids) id any =
    elim (cases_Bool (first.0 == id.0)) [
      | inl same ↦ subst (Contains (first ∷ ids)) (same_id first id (eqb-true first.0 id.0 same)) (contains_first first ids)
      | inr other ↦ contains_behind first ids id (contains_of_any ids id (rw other at any))
    ]

-- no group before item k names the domain
abbrev NamedOnlyAt : List Item → NodeId → ℕ → Type 0
NamedOnlyAt items id k = (j : ℕ) (ids : List NodeId) → slice_get items j ≡ Some (Group ids) → Contains ids id → j ≡ k

only_behind : (item : Item) (items : List Item) (id : NodeId) (k : ℕ) → NamedOnlyAt (item ∷ items) id (suc k) → NamedOnlyAt items id k
only_behind item items id k only j ids group among =
    let next : suc j ≡ suc k = only (suc j) ids group among in
    omega arith

first_items_write : (domains : List Domain) (at : ℕ) (items : List Item) → FitsItems domains at items → (id : NodeId) (k : ℕ) (ids : List NodeId)
    → slice_get items k ≡ Some (Group ids) → Contains ids id → NamedOnlyAt items id k → (p : Place)
    → written_before id.0 (body_by (node_of domains) items) p ≡ body_writes (first_items k (body_by (node_of domains) items)) p
first_items_write domains at [] fits id k ids group among only p = absurd (cc)
first_items_write domains at (Run op ∷ items) fits id zero ids group among only p = absurd (cc)
first_items_write domains at (Run op ∷ items) fits id (suc k) ids group among only p =
    ap (λ b. in_range (op_writes op) p || b)
    (first_items_write domains at items fits.2 id k ids group among (only_behind (Run op) items id k only) p)
first_items_write domains at (Group others ∷ items) fits id zero ids group among only p =
    let same : others ≡ ids = cc in
    let here : has_member id.0 (members_by (node_of domains) others) ≡ true =
    has_member-members_by domains at id.0 others fits.2
    ∙ any_of_contains others id (subst (λ (xs : List NodeId). Contains xs id) (sym same) among) in
    rw here
first_items_write domains at (Group others ∷ items) fits id (suc k) ids group among only p =
    elim (cases_Bool (list_any (λ (m : NodeId). m.0 == id.0) others)) [
      | inl any ↦
          let wrong : 0 ≡ suc k = only 0 others refl (contains_of_any others id any) in
          absurd (omega arith)
      | inr none ↦
          let absent : has_member id.0 (members_by (node_of domains) others) ≡ false = has_member-members_by domains at id.0 others fits.2 ∙ none in
          rw absent
          (ap (λ b. member_writes (members_by (node_of domains) others) p || b)
          (first_items_write domains at items fits.3 id k ids group among (only_behind (Group others) items id k only) p))
    ]

-- ---- the place of a child

-- the group in which a domain stands
record Standing (items : List Item) (id : NodeId) (k : ℕ) : Type 0 where
  ids : List NodeId
  group : slice_get items k ≡ Some (Group ids)
  among : Contains ids id

standing : (items : List Item) (id : NodeId) (k member : ℕ) → StandsAt items id k member → Standing items id k
standing items id k member stands =
    let found = some_of (slice_get items k) (λ item. HasMember item member id) stands in
    by_item found.0 found.1 found.2
  where
    by_item : (item : Item) → slice_get items k ≡ Some item → HasMember item member id → Standing items id k
    by_item (Run op) is has = absurd has
    by_item (Group ids) is has =
        record { ids = ids; group = is; among = (member, slice_get_within ids member id has, get_or_from_slice_get ids member id id has) }

stands_in : (domains : List Domain) (parent id : NodeId) (above : Domain) → slice_get domains parent.0 ≡ Some above
    → (j : ℕ) (ids : List NodeId) → slice_get above.items j ≡ Some (Group ids) → (among : Contains ids id)
    → StandsIn domains parent id (record { item = j; member = among.0 })
stands_in domains parent id above here j ids group among =
    some_and (slice_get domains parent.0) (λ (d : Domain). StandsAt d.items id j among.0) above here
    (some_and (slice_get above.items j) (λ item. HasMember item among.0 id) (Group ids) group
    (slice_get-get_or ids among.0 id among.1 ∙ ap Some among.2))

pub written_by_first_items : WrittenByFirstItems
written_by_first_items tree is parent id at above found stands p =
    let all : Known tree.domains = known_of tree is in
    let top = domain_behind tree.domains parent above found in
    let here = some_of (slice_get tree.domains parent.0) (λ (d : Domain). StandsAt d.items id at.item at.member) stands in
    let same : here.0 ≡ top.0 = same_domain (slice_get tree.domains parent.0) here.0 top.0 here.1 top.1 in
    let place : Standing top.0.items id at.item =
    standing top.0.items id at.item at.member (subst (λ (d : Domain). StandsAt d.items id at.item at.member) same here.2) in
    subst (λ (v : Node). written_before id.0 (body_of v) p ≡ body_writes (first_items at.item (body_of v)) p) (sym (top.2 all))
    (first_items_write tree.domains parent.0 top.0.items (all.fits parent top.0 top.1) id at.item place.ids place.group place.among
    (λ j ids group among.
    ap (λ (g : GroupPlace). g.item)
    (once tree is id parent parent (record { item = j; member = among.0 }) at (stands_in tree.domains parent id top.0 top.1 j ids group among)
    stands).1)
    p)
  where
    same_domain : (o : Option Domain) (one other : Domain) → o ≡ Some one → o ≡ Some other → one ≡ other
    same_domain o one other first second = cc

-- ---- words

pub outer_words_stay : OuterWordsStay
outer_words_stay plan is parent id at above d found_above found stands reference entry among here begun p inside =
    leaves (first_items at.item (body_of above)) begun p
    (sym (written_by_first_items plan.tree is.program parent id at above found_above stands p)
    ∙ outer_are_fresh plan is parent id above d found_above found (children plan.tree is.program parent id at stands).1 reference entry among here p
    inside)

-- a place of a range is one of each range that holds it
in_holder : (outer r : Range) (p : Place) → holds_range outer r ≡ true → in_range r p ≡ true → in_range outer p ≡ true
in_holder outer r p holds inside =
    let region = and_parts (outer.region == r.region) (nat_le outer.low r.low && nat_le r.high outer.high) holds in
    let ends = and_parts (nat_le outer.low r.low) (nat_le r.high outer.high) region.1 in
    let own = and_parts (r.region == p.region) (nat_le r.low p.index && nat_lt p.index r.high) inside in
    let places = and_parts (nat_le r.low p.index) (nat_lt p.index r.high) own.1 in
    let low : outer.low ≤ r.low = leb-true outer.low r.low ends.0 in
    let high : r.high ≤ outer.high = leb-true r.high outer.high ends.1 in
    let above : r.low ≤ p.index = leb-true r.low p.index places.0 in
    let below : p.index < r.high = ltb-true p.index r.high places.1 in
    and_from (outer.region == p.region) (nat_le outer.low p.index && nat_lt p.index outer.high)
    (eq-eqb outer.region p.region (eqb-true outer.region r.region region.0 ∙ eqb-true r.region p.region own.0))
    (and_from (nat_le outer.low p.index) (nat_lt p.index outer.high) (le-leb outer.low p.index (omega arith))
    (lt-ltb p.index outer.high (omega arith)))

-- what a domain began with agrees with what the link of a member's outer reference keeps
began_with : (plan : PlanModel) → IsPlan plan → (parent id : NodeId) (at : GroupPlace) (above d : Node)
    → node_of plan.tree.domains parent ≡ Some above → node_of plan.tree.domains id ≡ Some d → StandsIn plan.tree.domains parent id at
    → (kept : NodeId × ℕ → Words) (begun : Words)
    → AgreeWithLinks plan.tree.domains above kept begun → AgreeWithEntries plan.tree.domains parent kept begun
    → AgreeWithLinks plan.tree.domains d kept begun
began_with plan is parent id at above d found_above found stands kept begun links entries reference entry among here =
    let domains : List Domain = plan.tree.domains in
    let child : IsChild domains parent id = (children plan.tree is.program parent id at stands).1 in
    let where_ : LinksTo domains parent reference ⊎ Contains (outer_references above) reference =
    All-contains (λ x. LinksTo domains parent x ⊎ Contains (outer_references above) x) (outer_references d) reference
    (outer_of_members plan is parent id above d found_above found child) among in
    elim where_ [
      | inr higher ↦ links reference entry higher here
      | inl own ↦
          let link = some_of (link_of domains reference.0 reference.1) (λ l. l.0 ≡ parent) own in
          let to = links_lead plan.tree is.program reference.0 link.0.0 reference.1 link.0.1 entry here link.1 in
          let holder = some_of (entry_at domains link.0.0 link.0.1) (HoldsLink entry.range) to.2 in
          let at_parent : entry_at domains parent link.0.1 ≡ Some holder.0 =
          ap (λ (i : NodeId). entry_at domains i link.0.1) (sym link.2) ∙ holder.1 in
          some_and (link_of domains reference.0 reference.1) (λ l. SameWords (in_range entry.range) begun (kept l)) link.0 link.1
          (λ p inside.
          entries link.0.1 holder.0 at_parent holder.2.0 p (in_holder holder.0.range entry.range p holder.2.1 inside)
          ∙ ap (λ (i : NodeId). kept (i, link.0.1) p) (sym link.2))
    ]

pub links_serve_members : LinksServeMembers
links_serve_members plan is parent id at above d found_above found stands kept begun links entries reference entry among here =
    let domains : List Domain = plan.tree.domains in
    let link = some_of (link_of domains reference.0 reference.1) (λ l. SameWords (in_range entry.range) begun (kept l))
    (began_with plan is parent id at above d found_above found stands kept begun links entries reference entry among here) in
    some_and (link_of domains reference.0 reference.1) (λ l. SameWords (in_range entry.range) (waiting_words above at.item begun) (kept l)) link.0
    link.1
    (λ p inside. outer_words_stay plan is parent id at above d found_above found stands reference entry among here begun p inside ∙ link.2 p inside)
