-- The nested view of a program that a text can give is told as a text tells it.
use Rattle.std.proofs.Common.{◌≡◌, ℕ, zero, suc, ◌+◌, ◌<◌, ◌≤◌, List, [], ◌∷◌, ◌++◌, length, slice_get, Option, Some, None, sum_by, refl, sym, ap, ◌∙◌, subst, arith, length-append}
use Rattle.std.specs.Option.{IsSomeAnd}
use Rattle.std.proofs.lemmas.Option.{same_Some}
use Rattle.std.proofs.lemmas.List.Sums.{sum_by-append, sum_by-cons}
use Rattle.cd_tree.specs.declared.document.Region.{Region}
use Rattle.cd_tree.specs.declared.domain.NodeId.{NodeId}
use Rattle.cd_tree.specs.declared.domain.Item.{Item}
use Rattle.cd_tree.specs.declared.domain.Item.TheVariants.{Run, Group}
use Rattle.cd_tree.specs.declared.domain.Domain.{Domain}
use Rattle.cd_tree.specs.declared.kinds.KindName.{KindName}
use Rattle.cd_tree.specs.Laws.{NestedViewFollows}
use Rattle.cd_tree.specs.TreeModel.{TreeModel, IsTree, FitsItems, FitsDomain, NamesChildren}
use Rattle.cd_tree.specs.Domains.{Node, node, Body, stop, run, group, Members, no_more, member, put_first, members_by, body_by, node_of, node_numbers, body_numbers, member_numbers, node_depth, body_depth, members_depth, numbers_from}
use Rattle.cd_parse.specs.WellRead.{AreReadDomains, AreReadItems, IsReadDomain}
use Rattle.cd_print.proofs.ProgramLemmas.{each_at, domain_there}
use Rattle.cd_print.proofs.TreeViews.{id_of, ids_of, items_of, flat_node, flat_body, flat_members, node_items, body_items, member_items, node_preserves, body_preserves, member_preserves, IsTold, ToldNode, ToldBody, ToldMembers}

-- ---- a view beside the list of domains

-- a domain of the list with the body that its items describe
abbrev pub Seen : List Domain → Node → Type 0
Seen domains (node id domain body) = (slice_get domains id.0 ≡ Some domain) × (body ≡ body_by (node_of domains) domain.items)

abbrev mutual
  pub ShowsBody : List Domain → Body → List Item → Type 0
  ShowsBody domains stop items = items ≡ []
  ShowsBody domains (run op rest) items = (more : List Item) × (items ≡ Run op ∷ more) × ShowsBody domains rest more
  ShowsBody domains (group members rest) items =
      (ids : List NodeId) × (more : List Item) × (items ≡ Group ids ∷ more) × ShowsMembers domains members ids × ShowsBody domains rest more

  pub ShowsMembers : List Domain → Members → List NodeId → Type 0
  ShowsMembers domains no_more ids = ids ≡ []
  ShowsMembers domains (member first rest) ids = (more : List NodeId) × (ids ≡ id_of first ∷ more) × Seen domains first × ShowsMembers domains rest more

shows_members : NestedViewFollows → (tree : TreeModel) → IsTree tree → (at : ℕ) (ids : List NodeId) → NamesChildren tree.domains at ids
    → ShowsMembers tree.domains (members_by (node_of tree.domains) ids) ids
shows_members view tree is at [] h = refl
shows_members view tree is at (id ∷ ids) h =
    let there : (domain : Domain) × (slice_get tree.domains id.0 ≡ Some domain) =
    domain_there tree.domains id.0 (λ child. child.parent ≡ Some (record { 0 = at })) (slice_get tree.domains id.0) refl h.1 in
    subst (λ (o : Option Node). ShowsMembers tree.domains (put_first o (members_by (node_of tree.domains) ids)) (id ∷ ids))
    (sym (view tree is id there.0 there.1))
    (ids, refl, (there.1, refl), shows_members view tree is at ids h.2)

pub shows_body : NestedViewFollows → (tree : TreeModel) → IsTree tree → (at : ℕ) (items : List Item) → FitsItems tree.domains at items
    → ShowsBody tree.domains (body_by (node_of tree.domains) items) items
shows_body view tree is at [] h = refl
shows_body view tree is at (Run op ∷ items) h = (items, refl, shows_body view tree is at items h.2)
shows_body view tree is at (Group ids ∷ items) h = (ids, items, refl, shows_members view tree is at ids h.2, shows_body view tree is at items h.3)

ids_shown : (domains : List Domain) (ms : Members) (ids : List NodeId) → ShowsMembers domains ms ids → ids ≡ ids_of ms
ids_shown domains no_more ids h = h
ids_shown domains (member first rest) ids h = h.1 ∙ ap (λ (is : List NodeId). id_of first ∷ is) (ids_shown domains rest h.0 h.3)

items_shown : (domains : List Domain) (b : Body) (items : List Item) → ShowsBody domains b items → items ≡ items_of b
items_shown domains stop items h = h
items_shown domains (run op rest) items h = h.1 ∙ ap (λ (is : List Item). Run op ∷ is) (items_shown domains rest h.0 h.2)
items_shown domains (group ms rest) items h =
    h.2 ∙ ap (λ (ids : List NodeId). Group ids ∷ h.1) (ids_shown domains ms h.0 h.3) ∙ ap (λ (is : List Item). Group (ids_of ms) ∷ is) (items_shown domains rest h.1 h.4)

-- ---- numbers

-- numbers that go up by one from a number on
abbrev pub GoUp : ℕ → List ℕ → Type 0
GoUp k [] = Unit {0}
GoUp k (n ∷ ns) = (n ≡ k) × GoUp (suc k) ns

pub go_up : (k : ℕ) (n : ℕ) → GoUp k (numbers_from k n)
go_up k zero = tt
go_up k (suc n) = (refl, go_up (suc k) n)

pub up_front : (k : ℕ) (front back : List ℕ) → GoUp k (front ++ back) → GoUp k front
up_front k [] back h = tt
up_front k (n ∷ front) back h = (h.0, up_front (suc k) front back h.1)

pub up_back : (k : ℕ) (front back : List ℕ) (j : ℕ) → GoUp k (front ++ back) → j ≡ k + length front → GoUp j back
up_back k [] back j h e = let same : k ≡ j = omega (arith, e) in subst (λ (m : ℕ). GoUp m back) same h
up_back k (n ∷ front) back j h e = up_back (suc k) front back j h.1 (omega (arith, e))

mutual
  pub node_size : (n : Node) → length (node_numbers n) ≡ length (flat_node n)
  node_size (node id domain body) = ap suc (body_size body)

  body_size : (b : Body) → length (body_numbers b) ≡ length (flat_body b)
  body_size stop = refl
  body_size (run op rest) = body_size rest
  body_size (group ms rest) =
      omega (arith, length-append (member_numbers ms) (body_numbers rest), length-append (flat_members ms) (flat_body rest), members_size ms, body_size rest)

  pub members_size : (ms : Members) → length (member_numbers ms) ≡ length (flat_members ms)
  members_size no_more = refl
  members_size (member first rest) =
      omega (arith, length-append (node_numbers first) (member_numbers rest), length-append (flat_node first) (flat_members rest), node_size first, members_size rest)

-- ---- the view as a text tells it

read_at : (regions : List Region) (domains : List Domain) (k : ℕ) (domain : Domain) → AreReadDomains regions domains → slice_get domains k ≡ Some domain → IsReadDomain regions domain
read_at regions [] k domain h there = absurd (cc)
read_at regions (one ∷ domains) zero domain h there = subst (IsReadDomain regions) (same_Some one domain there) h.0
read_at regions (one ∷ domains) (suc k) domain h there = read_at regions domains k domain h.1 there

-- a program, and what a text says of it
pub record Told (regions : List Region) (tree : TreeModel) : Type 0 where
  pub view : NestedViewFollows
  pub is : IsTree tree
  pub read : AreReadDomains regions tree.domains

parent_is : (domains : List Domain) (k at : ℕ) (domain : Domain) (o : Option Domain) → slice_get domains k ≡ Some domain → o ≡ slice_get domains k
    → IsSomeAnd o (λ child. child.parent ≡ Some (record { 0 = at })) → domain.parent ≡ Some (record { 0 = at })
parent_is domains k at domain None there e h = absurd h
parent_is domains k at domain (Some one) there e h = subst (λ (d : Domain). d.parent ≡ Some (record { 0 = at })) (same_Some one domain (e ∙ there)) h

mutual
  pub node_told : (n : Node) (regions : List Region) (tree : TreeModel) (k : ℕ) (parent : Option NodeId) (depth : ℕ) (above : (d : Domain) → slice_get tree.domains (id_of n).0 ≡ Some d → d.parent ≡ parent)
      → Told regions tree → Seen tree.domains n → GoUp k (node_numbers n) → depth + node_depth n ≤ 16 → ToldNode regions tree.kinds k parent depth n
  node_told (node id domain body) regions tree k parent depth above t seen up deep =
      let fits : FitsDomain tree.kinds tree.domains id.0 domain = each_at tree.kinds tree.domains 0 tree.domains id.0 domain id.0 t.is.each seen.0 (omega arith) in
      let read : IsReadDomain regions domain = read_at regions tree.domains id.0 domain t.read seen.0 in
      let shown : ShowsBody tree.domains body domain.items =
      subst (λ (b : Body). ShowsBody tree.domains b domain.items) (sym seen.1) (shows_body t.view tree t.is id.0 domain.items fits.items) in
      let next : GoUp (k + 1) (body_numbers body) = (let more : suc k ≡ k + 1 = omega arith in subst (λ (m : ℕ). GoUp m (body_numbers body)) more up.1) in (
        up.0,
        omega (arith, deep),
        record {
          above = above domain seen.0;
          name = read.name;
          short = read.short;
          some = fits.tries;
          most = fits.retry;
          detects = fits.detects;
          few = fits.entries;
          entries = read.entries;
          items = items_shown tree.domains body domain.items shown;
        },
        body_told body regions tree id.0 (k + 1) (depth + 1) domain.items t shown fits.items read.items next (omega (arith, deep)),
      )

  body_told : (b : Body) (regions : List Region) (tree : TreeModel) (at k depth : ℕ) (items : List Item) → Told regions tree → ShowsBody tree.domains b items
      → FitsItems tree.domains at items → AreReadItems regions items → GoUp k (body_numbers b) → depth + body_depth b ≤ 16 → ToldBody regions tree.kinds at k depth b
  body_told stop regions tree at k depth items t shown fits read up deep = tt
  body_told (run op rest) regions tree at k depth items t shown fits read up deep =
      let fits_more : FitsItems tree.domains at (Run op ∷ shown.0) = subst (FitsItems tree.domains at) shown.1 fits in
      let read_more : AreReadItems regions (Run op ∷ shown.0) = subst (AreReadItems regions) shown.1 read in
      (read_more.0, read_more.1, body_told rest regions tree at k depth shown.0 t shown.2 fits_more.2 read_more.2 up deep)
  body_told (group ms rest) regions tree at k depth items t shown fits read up deep =
      let fits_more : FitsItems tree.domains at (Group shown.0 ∷ shown.1) = subst (FitsItems tree.domains at) shown.2 fits in
      let read_more : AreReadItems regions (Group shown.0 ∷ shown.1) = subst (AreReadItems regions) shown.2 read in
      let ids : shown.0 ≡ ids_of ms = ids_shown tree.domains ms shown.0 shown.3 in (
        subst (λ (is : List NodeId). 0 < length is) ids fits_more.0,
        subst (λ (is : List NodeId). length is ≤ 256) ids fits_more.1,
        members_told ms regions tree at k depth shown.0 t shown.3 fits_more.2 (up_front k (member_numbers ms) (body_numbers rest) up) (omega (arith, deep)),
        body_told rest regions tree at (k + length (flat_members ms)) depth shown.1 t shown.4 fits_more.3 read_more
            (up_back k (member_numbers ms) (body_numbers rest) (k + length (flat_members ms)) up (omega (arith, members_size ms))) (omega (arith, deep)),
      )

  members_told : (ms : Members) (regions : List Region) (tree : TreeModel) (at k depth : ℕ) (ids : List NodeId) → Told regions tree → ShowsMembers tree.domains ms ids
      → NamesChildren tree.domains at ids → GoUp k (member_numbers ms) → depth + members_depth ms ≤ 16 → ToldMembers regions tree.kinds at k depth ms
  members_told no_more regions tree at k depth ids t shown named up deep = tt
  members_told (member first rest) regions tree at k depth ids t shown named up deep =
      let named_more : NamesChildren tree.domains at (id_of first ∷ shown.0) = subst (NamesChildren tree.domains at) shown.1 named in (
        node_told first regions tree k (Some (record { 0 = at })) depth
            (λ d there. parent_is tree.domains (id_of first).0 at d (slice_get tree.domains (id_of first).0) there refl named_more.1) t shown.2
            (up_front k (node_numbers first) (member_numbers rest) up) (omega (arith, deep)),
        members_told rest regions tree at (k + length (flat_node first)) depth shown.0 t shown.3 named_more.2
            (up_back k (node_numbers first) (member_numbers rest) (k + length (flat_node first)) up (omega (arith, node_size first))) (omega (arith, deep)),
      )

-- ---- items and entries as sums

abbrev own_items : Domain → ℕ
own_items domain = length domain.items

abbrev own_entries : Domain → ℕ
own_entries domain = length domain.entries

mutual
  pub node_sums : (n : Node) (regions : List Region) (kinds : List KindName) (k : ℕ) (parent : Option NodeId) (depth : ℕ) → ToldNode regions kinds k parent depth n
      → (node_items n ≡ sum_by own_items (flat_node n)) × (node_preserves n ≡ sum_by own_entries (flat_node n))
  node_sums (node id domain body) regions kinds k parent depth t =
      let it : IsTold regions kinds parent domain body = t.2 in
      let below = body_sums body regions kinds id.0 (k + 1) (depth + 1) t.3 in
      let own : length domain.items ≡ length (items_of body) = ap (λ (items : List Item). length items) it.items in
      (omega (arith, own, below.0, sum_by-cons own_items domain (flat_body body)), omega (arith, below.1, sum_by-cons own_entries domain (flat_body body)))

  body_sums : (b : Body) (regions : List Region) (kinds : List KindName) (at k depth : ℕ) → ToldBody regions kinds at k depth b
      → (body_items b ≡ length (items_of b) + sum_by own_items (flat_body b)) × (body_preserves b ≡ sum_by own_entries (flat_body b))
  body_sums stop regions kinds at k depth t = (refl, refl)
  body_sums (run op rest) regions kinds at k depth t =
      let more = body_sums rest regions kinds at k depth t.2 in
      (omega (arith, more.0), more.1)
  body_sums (group ms rest) regions kinds at k depth t =
      let inner = members_sums ms regions kinds at k depth t.2 in
      let more = body_sums rest regions kinds at (k + length (flat_members ms)) depth t.3 in (
        omega (arith, inner.0, more.0, sum_by-append own_items (flat_members ms) (flat_body rest)),
        omega (arith, inner.1, more.1, sum_by-append own_entries (flat_members ms) (flat_body rest)),
      )

  members_sums : (ms : Members) (regions : List Region) (kinds : List KindName) (at k depth : ℕ) → ToldMembers regions kinds at k depth ms
      → (member_items ms ≡ sum_by own_items (flat_members ms)) × (member_preserves ms ≡ sum_by own_entries (flat_members ms))
  members_sums no_more regions kinds at k depth t = (refl, refl)
  members_sums (member first rest) regions kinds at k depth t =
      let one = node_sums first regions kinds k (Some (record { 0 = at })) depth t.0 in
      let more = members_sums rest regions kinds at (k + length (flat_node first)) depth t.1 in (
        omega (arith, one.0, more.0, sum_by-append own_items (flat_node first) (flat_members rest)),
        omega (arith, one.1, more.1, sum_by-append own_entries (flat_node first) (flat_members rest)),
      )
