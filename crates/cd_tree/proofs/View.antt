-- The nested view of a program, domain by domain.
use Rattle.std.proofs.Common.{◌≡◌, ℕ, zero, suc, ◌+◌, ◌-◌, ◌<◌, ◌≤◌, List, [], ◌∷◌, length, Option, None, Some, IsSomeAnd, All, slice_get, refl, ap, sym, subst, ◌∙◌, arith, inl, inr}
use Rattle.std.proofs.lemmas.Bool.{cases_eq}
use Rattle.std.proofs.lemmas.List.Elements.{All-nil, All-cons}
use Rattle.std.proofs.lemmas.Option.{slice_get_within}
use Rattle.cd_base.proofs.ListLemmas.{some_of}
use Rattle.cd_tree.specs.declared.domain.NodeId.{NodeId}
use Rattle.cd_tree.specs.declared.domain.Item.{Item}
use Rattle.cd_tree.specs.declared.domain.Item.TheVariants.{Run, Group}
use Rattle.cd_tree.specs.declared.domain.Domain.{Domain}
use Rattle.cd_tree.specs.declared.kinds.KindName.{KindName}
use Rattle.cd_tree.specs.Domains.{Node, node, Body, member, put_first, members_by, body_by, nodes_from, node_of}
use Rattle.cd_tree.specs.TreeModel.{TreeModel, IsTree, NamesChildren, FitsItems, FitsDomain, EachFits}

-- each of these numbers is above a number
abbrev pub NamesLater : ℕ → List NodeId → Type 0
NamesLater at [] = Unit {0}
NamesLater at (id ∷ ids) = (at < id.0) × NamesLater at ids

-- the groups among these items name later domains only
abbrev pub GroupsNameLater : ℕ → List Item → Type 0
GroupsNameLater at [] = Unit {0}
GroupsNameLater at (Run op ∷ items) = GroupsNameLater at items
GroupsNameLater at (Group ids ∷ items) = NamesLater at ids × GroupsNameLater at items

-- two ways to find domains that agree on the later ones
abbrev AgreeLater : ℕ → (NodeId → Option Node) → (NodeId → Option Node) → Type 0
AgreeLater at find other = (id : NodeId) → at < id.0 → find id ≡ other id

members_agree : (at : ℕ) (find other : NodeId → Option Node) (ids : List NodeId)
    → AgreeLater at find other → NamesLater at ids → members_by find ids ≡ members_by other ids
members_agree at find other [] same later = refl
members_agree at find other (id ∷ ids) same (above, later) =
    let here : find id ≡ other id = same id above in
    let rest : members_by find ids ≡ members_by other ids = members_agree at find other ids same later in
    rw (here, rest)

body_agrees : (at : ℕ) (find other : NodeId → Option Node) (items : List Item)
    → AgreeLater at find other → GroupsNameLater at items → body_by find items ≡ body_by other items
body_agrees at find other [] same later = refl
body_agrees at find other (Run op ∷ items) same later = ap (Body.run op) (body_agrees at find other items same later)
body_agrees at find other (Group ids ∷ items) same (named, later) =
    let here : members_by find ids ≡ members_by other ids = members_agree at find other ids same named in
    let rest : body_by find items ≡ body_by other items = body_agrees at find other items same later in
    rw (here, rest)

-- an element behind the first one
behind : {X : Type 0} (x : X) (xs : List X) (k j : ℕ) → k ≡ suc j → slice_get (x ∷ xs) k ≡ slice_get xs j
behind x xs k j e = rw e

-- `find` gives the domains behind `at` as the views from `at` on do
abbrev FindsLater : ℕ → List Domain → (NodeId → Option Node) → Type 0
FindsLater at domains find = (id : NodeId) → at < id.0 → find id ≡ slice_get (nodes_from at domains) (id.0 - at)

number_of : (at : ℕ) (id : NodeId) → at ≡ id.0 → record { 0 = at } ≡ id
number_of at id e = let make : ℕ → NodeId = λ n. record { 0 = n } in ap make e

view_here : (find : NodeId → Option Node) (at : ℕ) (first : Domain) (domains : List Domain) (id : NodeId) (domain : Domain)
    → FindsLater at (first ∷ domains) find → at ≡ id.0 → slice_get (first ∷ domains) (id.0 - at) ≡ Some domain
    → GroupsNameLater id.0 domain.items
    → slice_get (nodes_from at (first ∷ domains)) (id.0 - at) ≡ Some (node id domain (body_by find domain.items))
view_here find at first domains id domain finds here is later =
    let none : id.0 - at ≡ 0 = omega arith in
    let views : List Node = nodes_from (suc at) domains in
    let seek : NodeId → Option Node = λ i. slice_get views (i.0 - suc at) in
    let first_view : Node = node (record { 0 = at }) first (body_by seek first.items) in
    let same : first ≡ domain =
    let there : slice_get (first ∷ domains) 0 ≡ Some domain = rw none at is in cc in
    let number : record { 0 = at } ≡ id = number_of at id here in
    let body : body_by seek domain.items ≡ body_by find domain.items =
    body_agrees id.0 seek find domain.items
    (λ i above.
    sym (finds i (omega arith) ∙ behind first_view views (i.0 - at) (i.0 - suc at) (omega arith)))
    later in
    let head : slice_get (first_view ∷ views) (id.0 - at) ≡ Some first_view = rw none in
    head ∙ cc

view_at : (find : NodeId → Option Node) (at : ℕ) (domains : List Domain) (id : NodeId) (domain : Domain)
    → FindsLater at domains find → at ≤ id.0 → slice_get domains (id.0 - at) ≡ Some domain → GroupsNameLater id.0 domain.items
    → slice_get (nodes_from at domains) (id.0 - at) ≡ Some (node id domain (body_by find domain.items))
view_at find at [] id domain finds from is later = absurd (cc)
view_at find at (first ∷ domains) id domain finds from is later =
    elim (cases_eq at id.0) [
      | inl here ↦ view_here find at first domains id domain finds here is later
      | inr other ↦
          let above : at < id.0 = omega arith in
          let next : id.0 - at ≡ suc (id.0 - suc at) = omega arith in
          let views : List Node = nodes_from (suc at) domains in
          let first_view : Node = node (record { 0 = at }) first (body_by (λ i. slice_get views (i.0 - suc at)) first.items) in
          let there : slice_get domains (id.0 - suc at) ≡ Some domain =
          sym (behind first domains (id.0 - at) (id.0 - suc at) next) ∙ is in
          behind first_view views (id.0 - at) (id.0 - suc at) next
          ∙ view_at find (suc at) domains id domain
          (λ i after.
          finds i (omega arith)
          ∙ behind first_view views (i.0 - at) (i.0 - suc at) (omega arith))
          above there later
    ]

names_children_later : (domains : List Domain) (at : ℕ) (ids : List NodeId) → NamesChildren domains at ids → NamesLater at ids
names_children_later domains at [] fits = tt
names_children_later domains at (id ∷ ids) (above, child, fits) = (above, names_children_later domains at ids fits)

pub items_name_later : (domains : List Domain) (at : ℕ) (items : List Item) → FitsItems domains at items → GroupsNameLater at items
items_name_later domains at [] fits = tt
items_name_later domains at (Run op ∷ items) (full, shape, fits) = items_name_later domains at items fits
items_name_later domains at (Group ids ∷ items) (some, few, named, fits) =
    (names_children_later domains at ids named, items_name_later domains at items fits)

-- ---- what a program says of one of its domains

-- each of some domains that fit fits
pub fits_at : (kinds : List KindName) (all : List Domain) (at : ℕ) (domains : List Domain) (k : ℕ) (domain : Domain)
    → EachFits kinds all at domains → slice_get domains k ≡ Some domain → FitsDomain kinds all (at + k) domain
fits_at kinds all at [] k domain fits is = absurd (cc)
fits_at kinds all at (first ∷ domains) zero domain (here, fits) is =
    let same : first ≡ domain = cc in
    let sum : at + 0 ≡ at = omega arith in
    rw (sum, ← same) here
fits_at kinds all at (first ∷ domains) (suc k) domain (here, fits) is =
    let sum : at + suc k ≡ suc at + k = omega arith in
    rw sum (fits_at kinds all (suc at) domains k domain fits is)

-- each domain of a program is as a program wants it
pub domain_fits : (tree : TreeModel) → IsTree tree → (id : NodeId) (domain : Domain) → slice_get tree.domains id.0 ≡ Some domain
    → FitsDomain tree.kinds tree.domains id.0 domain
domain_fits tree is id domain there =
    let sum : 0 + id.0 ≡ id.0 = omega arith in
    rw sum at (fits_at tree.kinds tree.domains 0 tree.domains id.0 domain is.each there)

-- the groups of each domain of a program name later domains
pub tree_names_later : (tree : TreeModel) → IsTree tree → (id : NodeId) (domain : Domain)
    → slice_get tree.domains id.0 ≡ Some domain → GroupsNameLater id.0 domain.items
tree_names_later tree is id domain there =
    items_name_later tree.domains id.0 domain.items (domain_fits tree is id domain there).items

pub nested_view_follows_where : (domains : List Domain) (id : NodeId) (domain : Domain)
    → slice_get domains id.0 ≡ Some domain → GroupsNameLater id.0 domain.items
    → node_of domains id ≡ Some (node id domain (body_by (node_of domains) domain.items))
nested_view_follows_where domains id domain there later =
    let from : (n : ℕ) → n - 0 ≡ n = λ n. omega arith in
    let view : slice_get (nodes_from 0 domains) (id.0 - 0) ≡ Some (node id domain (body_by (node_of domains) domain.items)) =
    view_at (node_of domains) 0 domains id domain
    (λ i above. ap (slice_get (nodes_from 0 domains)) (sym (from i.0)))
    (omega arith) (ap (slice_get domains) (from id.0) ∙ there) later in
    ap (slice_get (nodes_from 0 domains)) (sym (from id.0)) ∙ view

pub nested_view_follows : (tree : TreeModel) → IsTree tree → (id : NodeId) (domain : Domain) → slice_get tree.domains id.0 ≡ Some domain
    → node_of tree.domains id ≡ Some (node id domain (body_by (node_of tree.domains) domain.items))
nested_view_follows tree is id domain there =
    nested_view_follows_where tree.domains id domain there (tree_names_later tree is id domain there)

-- ---- what is there of a program

-- a program has as many views as domains
pub length-nodes_from : (at : ℕ) (domains : List Domain) → length (nodes_from at domains) ≡ length domains
length-nodes_from at [] = refl
length-nodes_from at (domain ∷ domains) = ap suc (length-nodes_from (suc at) domains)

-- the domain of a number in the list
pub domain_here : (domains : List Domain) (n : ℕ) → n < length domains → (domain : Domain) × (slice_get domains n ≡ Some domain)
domain_here [] n within = absurd (omega arith)
domain_here (first ∷ rest) zero within = (first, refl)
domain_here (first ∷ rest) (suc n) within = domain_here rest n (omega arith)

-- the members that a group names are there
pub members_here : (domains : List Domain) (at : ℕ) (ids : List NodeId) → NamesChildren domains at ids
    → All (λ (id : NodeId). id.0 < length domains) ids
members_here domains at [] named = All-nil (λ (id : NodeId). id.0 < length domains)
members_here domains at (id ∷ ids) (above, child, named) =
    let found = some_of (slice_get domains id.0) (λ d. d.parent ≡ Some (record { 0 = at })) child in
    All-cons (λ (i : NodeId). i.0 < length domains) id ids (slice_get_within domains id.0 found.0 found.1) (members_here domains at ids named)

-- the members of a group whose first is found
pub members_by-found : (find : NodeId → Option Node) (id : NodeId) (ids : List NodeId) (d : Node) → find id ≡ Some d
    → members_by find (id ∷ ids) ≡ member d (members_by find ids)
members_by-found find id ids d found = ap (λ (o : Option Node). put_first o (members_by find ids)) found

-- what holds of a domain that is there
pub held : (P : Domain → Type 0) (found : Option Domain) (domain : Domain) → found ≡ Some domain → IsSomeAnd found P → P domain
held P found domain is h = subst (λ (o : Option Domain). IsSomeAnd o P) is h

-- the first domain of a program has no parent
pub first_has_none : (tree : TreeModel) → IsTree tree → (id : NodeId) (domain : Domain) → slice_get tree.domains id.0 ≡ Some domain
    → 0 ≡ id.0 → domain.parent ≡ None
first_has_none tree is id domain there first =
    held (λ d. d.parent ≡ None) (slice_get tree.domains 0) domain (ap (slice_get tree.domains) first ∙ there) is.root
