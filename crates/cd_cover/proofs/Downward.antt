-- What the laws of a tree say of one program, an induction from its last domain down to its first, and its subtrees.
use Rattle.std.proofs.Common.{◌≡◌, ◌⊎◌, inl, inr, ℕ, zero, suc, ◌-◌, ◌<◌, List, [], ◌∷◌, ◌++◌, Option, Some, length, slice_get, refl, sym, ap, ◌∙◌, subst, arith}
use Rattle.std.specs.Option.{option_map_or}
use Rattle.std.specs.List.{Contains}
use Rattle.std.proofs.lemmas.Option.{slice_get_within}
use Rattle.std.proofs.lemmas.List.Elements.{Contains-append_left, Contains-append_right, Contains-append_cases}
use Rattle.cd_base.proofs.ListLemmas.{some_of}
use Rattle.cd_tree.specs.declared.domain.NodeId.{NodeId}
use Rattle.cd_tree.specs.declared.domain.Item.{Item}
use Rattle.cd_tree.specs.declared.domain.Item.TheVariants.{Run, Group}
use Rattle.cd_tree.specs.declared.domain.Domain.{Domain}
use Rattle.cd_tree.specs.TreeModel.{TreeModel, IsTree, FitsItems, NamesChildren}
use Rattle.cd_tree.specs.Domains.{Node, Members, node, put_first, members_by, body_by, nodes_from, node_of, node_numbers, body_numbers, member_numbers}
use Rattle.cd_tree.specs.Scripts.{path_of}
use Rattle.cd_tree.proofs.View.{domain_fits, length-nodes_from, domain_here}
use Rattle.cd_cover.proofs.Grounds.{views, parents, paths}

-- the view of a domain of a list
abbrev pub view_in : List Domain → NodeId → Domain → Node
view_in domains id domain = node id domain (body_by (node_of domains) domain.items)

-- what the laws of a tree say of the domains of one program
pub record Known (domains : List Domain) : Type 0 where
  pub view : (id : NodeId) (domain : Domain) → slice_get domains id.0 ≡ Some domain → node_of domains id ≡ Some (view_in domains id domain)
  pub fits : (id : NodeId) (domain : Domain) → slice_get domains id.0 ≡ Some domain → FitsItems domains id.0 domain.items
  pub before : (id parent : NodeId) (domain : Domain) → slice_get domains id.0 ≡ Some domain → domain.parent ≡ Some parent → parent.0 < id.0
  pub path :
      (id : NodeId) (domain : Domain) → slice_get domains id.0 ≡ Some domain
      → path_of domains id ≡ option_map_or (path_of domains) domain.parent [] ++ id ∷ []

pub known_of : (tree : TreeModel) → IsTree tree → Known tree.domains
known_of tree is =
    record {
      view = views tree is;
      fits = λ id domain there. (domain_fits tree is id domain there).items;
      before = parents tree is;
      path = paths tree is;
    }

within_views : (at : ℕ) (domains : List Domain) (k : ℕ) (d : Node) → slice_get (nodes_from at domains) k ≡ Some d → k < length domains
within_views at domains k d found =
    let within : k < length (nodes_from at domains) = slice_get_within (nodes_from at domains) k d found in
    omega (arith, length-nodes_from at domains)

-- the domain behind a view
pub domain_behind : (domains : List Domain) → (id : NodeId) (d : Node) → node_of domains id ≡ Some d
    → (domain : Domain) × (slice_get domains id.0 ≡ Some domain) × (Known domains → d ≡ view_in domains id domain)
domain_behind domains id d found =
    let here = domain_here domains id.0 (within_views 0 domains id.0 d found) in (
      here.0,
      here.1,
      λ all.
          let view : node_of domains id ≡ Some (view_in domains id here.0) = all.view id here.0 here.1 in
          let same : d ≡ view_in domains id here.0 = cc in
          same,
    )

-- what holds of a domain where it holds of those with a smaller measure
abbrev pub Steps : List Domain → (ℕ → ℕ) → (NodeId → Domain → Type 0) → Type 0
Steps domains m P =
    (id : NodeId) (domain : Domain) → slice_get domains id.0 ≡ Some domain
    → ((next : NodeId) (other : Domain) → m next.0 < m id.0 → slice_get domains next.0 ≡ Some other → P next other) → P id domain

-- holds of each
by_measure : (n : ℕ) (domains : List Domain) (m : ℕ → ℕ) (P : NodeId → Domain → Type 0) → Steps domains m P
    → (id : NodeId) (domain : Domain) → slice_get domains id.0 ≡ Some domain → m id.0 < n → P id domain
by_measure zero domains m P step id domain there below = absurd (omega arith)
by_measure (suc n) domains m P step id domain there below =
    step id domain there (λ next other less found. by_measure n domains m P step next other found (omega arith))

-- from the last domain down: of a domain where it holds of all after it
pub downward : (domains : List Domain) (P : NodeId → Domain → Type 0)
    → ((id : NodeId) (domain : Domain) → slice_get domains id.0 ≡ Some domain
    → ((later : NodeId) (other : Domain) → id.0 < later.0 → slice_get domains later.0 ≡ Some other → P later other) → P id domain)
    → (id : NodeId) (domain : Domain) → slice_get domains id.0 ≡ Some domain → P id domain
downward domains P step id domain there =
    by_measure (suc (length domains - id.0)) domains (λ k. length domains - k) P
    (λ here above found rest.
    step here above found (λ later other before is.
    rest later other (let within : later.0 < length domains = slice_get_within domains later.0 other is in omega arith) is))
    id domain there (omega arith)

-- and from parents to their children: of a domain where it holds of all before it
pub upward : (domains : List Domain) (P : NodeId → Domain → Type 0) → Steps domains (λ k. k) P
    → (id : NodeId) (domain : Domain) → slice_get domains id.0 ≡ Some domain → P id domain
upward domains P step id domain there = by_measure (suc id.0) domains (λ k. k) P step id domain there (omega arith)

-- two numbers of domains are one where the numbers in them are
pub same_id : (one other : NodeId) → one.0 ≡ other.0 → one ≡ other
same_id one other same =
    let make : ℕ → NodeId = λ k. record { 0 = k } in
    ap make same

-- ---- lists

pub contains_first : {X : Type 0} (x : X) (xs : List X) → Contains (x ∷ xs) x
contains_first x xs = (0, omega arith, refl)

pub contains_behind : {X : Type 0} (x : X) (xs : List X) (y : X) → Contains xs y → Contains (x ∷ xs) y
contains_behind x xs y among = Contains-append_right (x ∷ []) xs y among

pub contains_cases : {X : Type 0} (x : X) (xs : List X) (y : X) → Contains (x ∷ xs) y → (x ≡ y) ⊎ Contains xs y
contains_cases x xs y (zero, within, same) = inl same
contains_cases x xs y (suc k, within, same) = inr (k, omega arith, same)

pub contains_none : {X : Type 0} (y : X) → Contains [] y → ⊥
contains_none y (k, within, same) = omega arith

-- ---- subtrees

-- whether a group among these items names a domain
abbrev pub IsNamed : NodeId → List Item → Type 0
IsNamed id [] = ⊥
IsNamed id (Run op ∷ items) = IsNamed id items
IsNamed id (Group ids ∷ items) = Contains ids id ⊎ IsNamed id items

-- a child that groups name: it is there, behind its parent
pub record Child (domains : List Domain) (at : ℕ) (id : NodeId) : Type 0 where
  pub domain : Domain
  pub there : slice_get domains id.0 ≡ Some domain
  pub later : at < id.0
  pub parent : domain.parent ≡ Some (record { 0 = at })

pub child_of_group : (domains : List Domain) (at : ℕ) (ids : List NodeId) → NamesChildren domains at ids → (id : NodeId) → Contains ids id
    → Child domains at id
child_of_group domains at [] named id among = absurd (contains_none id among)
child_of_group domains at (first ∷ ids) (above, child, named) id among =
    elim (contains_cases first ids id among) [
      | inl same ↦
          let found = some_of (slice_get domains first.0) (λ d. d.parent ≡ Some (record { 0 = at })) child in
          let here : Child domains at first = record { domain = found.0; there = found.1; later = above; parent = found.2 } in
          subst (Child domains at) same here
      | inr rest ↦ child_of_group domains at ids named id rest
    ]

pub child_named : (domains : List Domain) (at : ℕ) (items : List Item) → FitsItems domains at items → (id : NodeId) → IsNamed id items
    → Child domains at id
child_named domains at [] fits id named = absurd named
child_named domains at (Run op ∷ items) fits id named = child_named domains at items fits.2 id named
child_named domains at (Group ids ∷ items) fits id (inl here) = child_of_group domains at ids fits.2 id here
child_named domains at (Group ids ∷ items) fits id (inr later) = child_named domains at items fits.3 id later

-- a number in the subtree of a child that is named
pub record Below (domains : List Domain) (at n : ℕ) (IsOne : NodeId → Type 0) : Type 0 where
  pub id : NodeId
  pub named : IsOne id
  pub child : Child domains at id
  pub among : Contains (node_numbers (view_in domains id child.domain)) n

first_numbers : (found : Option Node) (v : Node) (rest : Members) → found ≡ Some v
    → member_numbers (put_first found rest) ≡ node_numbers v ++ member_numbers rest
first_numbers found v rest is = ap (λ (o : Option Node). member_numbers (put_first o rest)) is

-- the numbers of the members that a group names: those of the first, and those of the others
group_numbers : (domains : List Domain) → Known domains → (at : ℕ) (first : NodeId) (ids : List NodeId) (child : Child domains at first)
    → member_numbers (members_by (node_of domains) (first ∷ ids))
    ≡ node_numbers (view_in domains first child.domain) ++ member_numbers (members_by (node_of domains) ids)
group_numbers domains all at first ids child =
    first_numbers (node_of domains first) (view_in domains first child.domain) (members_by (node_of domains) ids)
    (all.view first child.domain child.there)

below_group : (domains : List Domain) → Known domains → (at : ℕ) (ids : List NodeId) → NamesChildren domains at ids → (n : ℕ)
    → Contains (member_numbers (members_by (node_of domains) ids)) n → Below domains at n (Contains ids)
below_group domains all at [] named n among = absurd (contains_none n among)
below_group domains all at (first ∷ ids) named n among =
    let child : Child domains at first = child_of_group domains at (first ∷ ids) named first (contains_first first ids) in
    elim (Contains-append_cases (node_numbers (view_in domains first child.domain)) (member_numbers (members_by (node_of domains) ids)) n
    (subst (λ (ns : List ℕ). Contains ns n) (group_numbers domains all at first ids child) among)) [
      | inl here ↦ record { id = first; named = contains_first first ids; child = child; among = here }
      | inr there ↦
          let rest : Below domains at n (Contains ids) = below_group domains all at ids named.2 n there in
          record { id = rest.id; named = contains_behind first ids rest.id rest.named; child = rest.child; among = rest.among }
    ]

below_items : (domains : List Domain) → Known domains → (at : ℕ) (items : List Item) → FitsItems domains at items → (n : ℕ)
    → Contains (body_numbers (body_by (node_of domains) items)) n → Below domains at n (λ id. IsNamed id items)
below_items domains all at [] fits n among = absurd (contains_none n among)
below_items domains all at (Run op ∷ items) fits n among =
    let rest : Below domains at n (λ id. IsNamed id items) = below_items domains all at items fits.2 n among in
    record { id = rest.id; named = rest.named; child = rest.child; among = rest.among }
below_items domains all at (Group ids ∷ items) fits n among =
    elim (Contains-append_cases (member_numbers (members_by (node_of domains) ids)) (body_numbers (body_by (node_of domains) items)) n among) [
      | inl here ↦
          let found : Below domains at n (Contains ids) = below_group domains all at ids fits.2 n here in
          record { id = found.id; named = inl found.named; child = found.child; among = found.among }
      | inr there ↦
          let rest : Below domains at n (λ id. IsNamed id items) = below_items domains all at items fits.3 n there in
          record { id = rest.id; named = inr rest.named; child = rest.child; among = rest.among }
    ]

in_group : (domains : List Domain) → Known domains → (at : ℕ) (ids : List NodeId) → NamesChildren domains at ids
    → (id : NodeId) (domain : Domain) → slice_get domains id.0 ≡ Some domain → Contains ids id → (n : ℕ)
    → Contains (node_numbers (view_in domains id domain)) n → Contains (member_numbers (members_by (node_of domains) ids)) n
in_group domains all at [] named id domain there among n inside = absurd (contains_none id among)
in_group domains all at (first ∷ ids) named id domain there among n inside =
    let child : Child domains at first = child_of_group domains at (first ∷ ids) named first (contains_first first ids) in
    let view : Node = view_in domains first child.domain in
    let rest : List ℕ = member_numbers (members_by (node_of domains) ids) in
    subst (λ (ns : List ℕ). Contains ns n) (sym (group_numbers domains all at first ids child))
    (elim (contains_cases first ids id among) [
      | inl same ↦
          let other : slice_get domains id.0 ≡ Some child.domain =
          subst (λ (i : NodeId). slice_get domains i.0 ≡ Some child.domain) same child.there in
          let both : child.domain ≡ domain = cc in
          let seen : view_in domains id domain ≡ view =
          sym (ap (λ (i : NodeId). view_in domains i child.domain) same ∙ ap (view_in domains id) both) in
          Contains-append_left (node_numbers view) rest n (subst (λ (d : Node). Contains (node_numbers d) n) seen inside)
      | inr later ↦
          Contains-append_right (node_numbers view) rest n (in_group domains all at ids named.2 id domain there later n inside)
    ])

in_items : (domains : List Domain) → Known domains → (at : ℕ) (items : List Item) → FitsItems domains at items
    → (id : NodeId) (domain : Domain) → slice_get domains id.0 ≡ Some domain → IsNamed id items → (n : ℕ)
    → Contains (node_numbers (view_in domains id domain)) n → Contains (body_numbers (body_by (node_of domains) items)) n
in_items domains all at [] fits id domain there named n inside = absurd named
in_items domains all at (Run op ∷ items) fits id domain there named n inside = in_items domains all at items fits.2 id domain there named n inside
in_items domains all at (Group ids ∷ items) fits id domain there (inl here) n inside =
    Contains-append_left (member_numbers (members_by (node_of domains) ids)) (body_numbers (body_by (node_of domains) items)) n
    (in_group domains all at ids fits.2 id domain there here n inside)
in_items domains all at (Group ids ∷ items) fits id domain there (inr later) n inside =
    Contains-append_right (member_numbers (members_by (node_of domains) ids)) (body_numbers (body_by (node_of domains) items)) n
    (in_items domains all at items fits.3 id domain there later n inside)

-- a number of a subtree is its domain's, or stands in the subtree of a child
pub numbers_cases : (domains : List Domain) → Known domains → (id : NodeId) (domain : Domain) → slice_get domains id.0 ≡ Some domain → (n : ℕ)
    → Contains (node_numbers (view_in domains id domain)) n → (id.0 ≡ n) ⊎ Below domains id.0 n (λ child. IsNamed child domain.items)
numbers_cases domains all id domain there n among =
    elim (contains_cases id.0 (body_numbers (body_by (node_of domains) domain.items)) n among) [
      | inl same ↦ inl same
      | inr rest ↦ inr (below_items domains all id.0 domain.items (all.fits id domain there) n rest)
    ]

-- what stands in the subtree of a child stands in the parent's
pub numbers_of_child : (domains : List Domain) → Known domains → (id : NodeId) (domain : Domain) → slice_get domains id.0 ≡ Some domain
    → (child : NodeId) (other : Domain) → slice_get domains child.0 ≡ Some other → IsNamed child domain.items → (n : ℕ)
    → Contains (node_numbers (view_in domains child other)) n → Contains (node_numbers (view_in domains id domain)) n
numbers_of_child domains all id domain there child other here named n inside =
    contains_behind id.0 (body_numbers (body_by (node_of domains) domain.items)) n
    (in_items domains all id.0 domain.items (all.fits id domain there) child other here named n inside)
