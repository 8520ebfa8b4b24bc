-- Each domain of a program but the root stands at one place of its parent's groups.
use Rattle.std.proofs.Common.{◌≡◌, ℕ, zero, suc, ◌-◌, ◌<◌, ◌≤◌, List, [], ◌∷◌, ◌++◌, Option, None, Some, IsSomeAnd, length, slice_get, refl, ap, sym, ◌∙◌, subst, arith, inl, inr}
use Rattle.std.proofs.lemmas.Bool.{cases_eq}
use Rattle.std.proofs.lemmas.Option.{slice_get_within, same_Some}
use Rattle.cd_tree.specs.declared.domain.NodeId.{NodeId}
use Rattle.cd_tree.specs.declared.domain.Item.{Item}
use Rattle.cd_tree.specs.declared.domain.Item.TheVariants.{Run, Group}
use Rattle.cd_tree.specs.declared.domain.Domain.{Domain}
use Rattle.cd_tree.specs.declared.groups.GroupPlace.{GroupPlace}
use Rattle.cd_tree.specs.Domains.{Node, Body, Members, node, stop, run, group, no_more, member, put_first, members_by, body_by, node_of, root_of, number_of, body_of, node_numbers, body_numbers, member_numbers, numbers_from, Throughout, ThroughoutBody, ThroughoutMembers}
use Rattle.cd_tree.specs.TreeModel.{TreeModel, IsTree, NamesChildren, FitsItems}
use Rattle.cd_tree.specs.Laws.{OfEach}
use Rattle.cd_tree.specs.Slices.{children_in, FillSlice, slice_end}
use Rattle.cd_tree.specs.Groups.{StandsAt, StandsIn}
use Rattle.cd_base.proofs.ListLemmas.{Each, each_append}
use Rattle.cd_tree.proofs.Numbers.{each_at}
use Rattle.cd_tree.proofs.View.{domain_fits, held, first_has_none}
use Rattle.cd_tree.proofs.EachDomain.{Behind, behind_view, from_each, number_there}
use Rattle.cd_tree.proofs.Filled.{children_fill_slices}

-- a property of the numbers of the members of a group / of a domain's children
abbrev EachMember : (ℕ → Type 0) → Members → Type 0
EachMember Q no_more = Unit {0}
EachMember Q (member first rest) = Q (number_of first) × EachMember Q rest

abbrev EachChild : (ℕ → Type 0) → Body → Type 0
EachChild Q stop = Unit {0}
EachChild Q (run op rest) = EachChild Q rest
EachChild Q (group members rest) = EachMember Q members × EachChild Q rest

abbrev ChildrenHave : (ℕ → Type 0) → Node → Type 0
ChildrenHave Q d = EachChild Q (body_of d)

mutual
  -- what holds of the children of each domain holds of all domains below the first
  below_node : (Q : ℕ → Type 0) (d : Node) → Throughout (ChildrenHave Q) d → Q (number_of d) → Each Q (node_numbers d)
  below_node Q (node id domain body) (here, below) own = (own, below_body Q body here below)

  below_body : (Q : ℕ → Type 0) (body : Body) → EachChild Q body → ThroughoutBody (ChildrenHave Q) body → Each Q (body_numbers body)
  below_body Q stop here below = tt
  below_body Q (run op rest) here below = below_body Q rest here below
  below_body Q (group members rest) (here, more) (below, others) =
      each_append Q (member_numbers members) (body_numbers rest) (below_members Q members here below) (below_body Q rest more others)

  below_members : (Q : ℕ → Type 0) (members : Members) → EachMember Q members → ThroughoutMembers (ChildrenHave Q) members
      → Each Q (member_numbers members)
  below_members Q no_more here below = tt
  below_members Q (member first rest) (here, more) (below, others) =
      each_append Q (node_numbers first) (member_numbers rest) (below_node Q first below here) (below_members Q rest more others)

-- each domain that `find` gives has the number by which it was found
abbrev FindsNumbers : (NodeId → Option Node) → Type 0
FindsNumbers find = (id : NodeId) (d : Node) → find id ≡ Some d → number_of d ≡ id.0

first_member : (Q : ℕ → Type 0) (found : Option Node) (rest : Members) → ((d : Node) → found ≡ Some d → Q (number_of d))
    → EachMember Q rest → EachMember Q (put_first found rest)
first_member Q None rest here more = more
first_member Q (Some d) rest here more = (here d refl, more)

named_members : (Q : ℕ → Type 0) (find : NodeId → Option Node) (ids : List NodeId) → FindsNumbers find
    → ((place : ℕ) (id : NodeId) → slice_get ids place ≡ Some id → Q id.0) → EachMember Q (members_by find ids)
named_members Q find [] finds each = tt
named_members Q find (id ∷ ids) finds each =
    first_member Q (find id) (members_by find ids) (λ d found. subst Q (sym (finds id d found)) (each 0 id refl))
    (named_members Q find ids finds (λ place. each (suc place)))

named_children : (Q : ℕ → Type 0) (find : NodeId → Option Node) (items : List Item) → FindsNumbers find
    → ((item place : ℕ) (id : NodeId) → StandsAt items id item place → Q id.0) → EachChild Q (body_by find items)
named_children Q find [] finds each = tt
named_children Q find (Run op ∷ items) finds each = named_children Q find items finds (λ item. each (suc item))
named_children Q find (Group ids ∷ items) finds each = (
  named_members Q find ids finds (each 0),
  named_children Q find items finds (λ item. each (suc item)),
)

-- the domain of this number stands somewhere among the items of a domain
pub record Stands (domains : List Domain) (k : ℕ) : Type 0 where
  pub parent : NodeId
  pub place : GroupPlace
  pub stands : StandsIn domains parent (record { 0 = k }) place

stands_by : (domains : List Domain) (parent : NodeId) (above : Domain) (item place : ℕ) (id : NodeId)
    → slice_get domains parent.0 ≡ Some above → StandsAt above.items id item place → Stands domains id.0
stands_by domains parent above item place id there stands =
    record {
      parent = parent;
      place = record { item = item; member = place };
      stands = subst (λ (o : Option Domain). IsSomeAnd o (λ d. StandsAt d.items id item place)) (sym there) stands;
    }

children_stand_by : (tree : TreeModel) → IsTree tree → OfEach tree (ChildrenHave (Stands tree.domains))
children_stand_by tree is id d found =
    let behind : Behind tree.domains id d = behind_view tree is id d found in
    let finds : FindsNumbers (node_of tree.domains) = λ i e there. number_there 0 tree.domains i.0 e there ∙ omega arith in
    subst (ChildrenHave (Stands tree.domains)) (sym behind.view)
    (named_children (Stands tree.domains) (node_of tree.domains) behind.domain.items finds
    (λ item place child stands. stands_by tree.domains id behind.domain item place child behind.there stands))

body_of_root : (Q : ℕ → Type 0) (d : Node) → Throughout (ChildrenHave Q) d → Each Q (body_numbers (body_of d))
body_of_root Q (node id domain body) (here, below) = below_body Q body here below

numbers_of_body : (d : Node) (n : ℕ) → node_numbers d ≡ numbers_from 0 (suc n) → body_numbers (body_of d) ≡ numbers_from 1 n
numbers_of_body (node id domain body) n is = cc

-- each domain but the first stands somewhere
pub stands_somewhere : (tree : TreeModel) → IsTree tree → (k : ℕ) → 0 < k → k < length tree.domains → Stands tree.domains k
stands_somewhere tree is k some within =
    let Q : ℕ → Type 0 = Stands tree.domains in
    let many : length tree.domains ≡ suc (length tree.domains - 1) = omega arith in
    let run : body_numbers (body_of (root_of tree.domains)) ≡ numbers_from 1 (length tree.domains - 1) =
    numbers_of_body (root_of tree.domains) (length tree.domains - 1) (is.preorder ∙ ap (numbers_from 0) many) in
    each_at Q 1 (length tree.domains - 1) k
    (subst (Each Q) run (body_of_root Q (root_of tree.domains) (from_each tree is (ChildrenHave Q) (children_stand_by tree is))))
    (omega arith) (omega arith)

-- who stands in a group of a domain is a later domain, whose parent it is
abbrev IsChildOf : List Domain → NodeId → NodeId → Type 0
IsChildOf domains parent id = (parent.0 < id.0) × IsSomeAnd (slice_get domains id.0) (λ child. child.parent ≡ Some parent)

named_is_child : (domains : List Domain) (parent : NodeId) (ids : List NodeId) (place : ℕ) (id : NodeId) → NamesChildren domains parent.0 ids
    → slice_get ids place ≡ Some id → IsChildOf domains parent id
named_is_child domains parent [] place id named is = absurd (cc)
named_is_child domains parent (first ∷ ids) zero id (above, child, named) is =
    let same : first ≡ id = cc in
    subst (IsChildOf domains parent) same (above, child)
named_is_child domains parent (first ∷ ids) (suc place) id (above, child, named) is = named_is_child domains parent ids place id named is

standing_is_child : (domains : List Domain) (parent : NodeId) (items : List Item) (item place : ℕ) (id : NodeId)
    → FitsItems domains parent.0 items → StandsAt items id item place → IsChildOf domains parent id
standing_is_child domains parent [] item place id fits stands = absurd stands
standing_is_child domains parent (Run op ∷ items) zero place id (full, shape, fits) stands = absurd stands
standing_is_child domains parent (Run op ∷ items) (suc item) place id (full, shape, fits) stands =
    standing_is_child domains parent items item place id fits stands
standing_is_child domains parent (Group ids ∷ items) zero place id (some, few, named, fits) stands =
    named_is_child domains parent ids place id named stands
standing_is_child domains parent (Group ids ∷ items) (suc item) place id (some, few, named, fits) stands =
    standing_is_child domains parent items item place id fits stands

-- the domain at whose items another stands
record Above (domains : List Domain) (parent id : NodeId) (at : GroupPlace) : Type 0 where
  domain : Domain
  there : slice_get domains parent.0 ≡ Some domain
  stands : StandsAt domain.items id at.item at.member

above : (domains : List Domain) (parent id : NodeId) (at : GroupPlace) → StandsIn domains parent id at → Above domains parent id at
above domains parent id at stands = by_found (slice_get domains parent.0) refl stands
  where
    by_found : (found : Option Domain) → slice_get domains parent.0 ≡ found
        → IsSomeAnd found (λ d. StandsAt d.items id at.item at.member) → Above domains parent id at
    by_found None is stands = absurd stands
    by_found (Some domain) is stands = record { domain = domain; there = is; stands = stands }

pub members_are_children : (tree : TreeModel) → IsTree tree → (parent id : NodeId) (at : GroupPlace) → StandsIn tree.domains parent id at
    → (parent.0 < id.0) × IsSomeAnd (slice_get tree.domains id.0) (λ child. child.parent ≡ Some parent)
members_are_children tree is parent id at stands =
    let over : Above tree.domains parent id at = above tree.domains parent id at stands in
    standing_is_child tree.domains parent over.domain.items at.item at.member id
    (domain_fits tree is parent over.domain over.there).items over.stands

-- what has a parent is not the root
not_first : (tree : TreeModel) → IsTree tree → (id parent : NodeId) (domain : Domain) → slice_get tree.domains id.0 ≡ Some domain
    → domain.parent ≡ Some parent → 0 < id.0
not_first tree is id parent domain there up =
    elim (cases_eq 0 id.0) [
      | inl first ↦
          let none : domain.parent ≡ None = first_has_none tree is id domain there first in
          absurd (cc)
      | inr later ↦ omega arith
    ]

pub children_stand : (tree : TreeModel) → IsTree tree → (id parent : NodeId) (domain : Domain) → slice_get tree.domains id.0 ≡ Some domain
    → domain.parent ≡ Some parent → (at : GroupPlace) × StandsIn tree.domains parent id at
children_stand tree is id parent domain there up =
    let some : 0 < id.0 = not_first tree is id parent domain there up in
    let stands : Stands tree.domains id.0 = stands_somewhere tree is id.0 some (slice_get_within tree.domains id.0 domain there) in
    let child : IsChildOf tree.domains stands.parent id = members_are_children tree is stands.parent id stands.place stands.stands in
    let own : domain.parent ≡ Some stands.parent = held (λ d. d.parent ≡ Some stands.parent) (slice_get tree.domains id.0) domain there child.1 in
    let same : stands.parent ≡ parent = same_Some stands.parent parent (sym own ∙ up) in
    (stands.place, subst (λ (p : NodeId). StandsIn tree.domains p id stands.place) same stands.stands)

-- slices that follow each other: what stands among the first of them is not before, and ends before the others
fill_from : (domains : List Domain) (ids more : List NodeId) (at end place : ℕ) (id : NodeId) → FillSlice domains at (ids ++ more) end
    → slice_get ids place ≡ Some id → at ≤ id.0
fill_from domains [] more at end place id fill is = absurd (cc)
fill_from domains (first ∷ ids) more at end zero id (here, grows, fill) is =
    let same : first ≡ id = cc in
    let number : first.0 ≡ id.0 = ap (λ (i : NodeId). i.0) same in
    omega arith
fill_from domains (first ∷ ids) more at end (suc place) id (here, grows, fill) is =
    let behind : slice_end domains first ≤ id.0 = fill_from domains ids more (slice_end domains first) end place id fill is in
    omega arith

record Middle (domains : List Domain) (ids more : List NodeId) (at end : ℕ) : Type 0 where
  middle : ℕ
  up : at ≤ middle
  rest : FillSlice domains middle more end
  before : (place : ℕ) (id : NodeId) → slice_get ids place ≡ Some id → id.0 < middle

middle_of : (domains : List Domain) (ids more : List NodeId) (at end : ℕ) → FillSlice domains at (ids ++ more) end → Middle domains ids more at end
middle_of domains [] more at end fill = record { middle = at; up = omega arith; rest = fill; before = λ place id is. absurd (cc) }
middle_of domains (first ∷ ids) more at end (here, grows, fill) =
    let later : Middle domains ids more (slice_end domains first) end = middle_of domains ids more (slice_end domains first) end fill in
    let up : slice_end domains first ≤ later.middle = later.up in
    let low : first.0 < later.middle = omega arith in
    record { middle = later.middle; up = omega arith; rest = later.rest; before = before first ids later.middle low later.before }
  where
    before : (first : NodeId) (ids : List NodeId) (middle : ℕ) → first.0 < middle
        → ((place : ℕ) (id : NodeId) → slice_get ids place ≡ Some id → id.0 < middle)
        → (place : ℕ) (id : NodeId) → slice_get (first ∷ ids) place ≡ Some id → id.0 < middle
    before first ids middle low rest zero id is =
        let same : first ≡ id = cc in
        subst (λ (i : NodeId). i.0 < middle) same low
    before first ids middle low rest (suc place) id is = rest place id is

standing_from : (domains : List Domain) (items : List Item) (at end item place : ℕ) (id : NodeId)
    → FillSlice domains at (children_in items) end → StandsAt items id item place → at ≤ id.0
standing_from domains [] at end item place id fill stands = absurd stands
standing_from domains (Run op ∷ items) at end zero place id fill stands = absurd stands
standing_from domains (Run op ∷ items) at end (suc item) place id fill stands = standing_from domains items at end item place id fill stands
standing_from domains (Group ids ∷ items) at end zero place id fill stands = fill_from domains ids (children_in items) at end place id fill stands
standing_from domains (Group ids ∷ items) at end (suc item) place id fill stands =
    let parted : Middle domains ids (children_in items) at end = middle_of domains ids (children_in items) at end fill in
    let behind : parted.middle ≤ id.0 = standing_from domains items parted.middle end item place id parted.rest stands in
    let up : at ≤ parted.middle = parted.up in
    omega arith

member_once : (domains : List Domain) (ids more : List NodeId) (at end place other : ℕ) (id : NodeId) → FillSlice domains at (ids ++ more) end
    → slice_get ids place ≡ Some id → slice_get ids other ≡ Some id → place ≡ other
member_once domains [] more at end place other id fill one two = absurd (cc)
member_once domains (first ∷ ids) more at end zero zero id fill one two = refl
member_once domains (first ∷ ids) more at end zero (suc other) id (here, grows, fill) one two =
    let same : first ≡ id = cc in
    let number : first.0 ≡ id.0 = ap (λ (i : NodeId). i.0) same in
    let behind : slice_end domains first ≤ id.0 = fill_from domains ids more (slice_end domains first) end other id fill two in
    absurd (omega arith)
member_once domains (first ∷ ids) more at end (suc place) zero id (here, grows, fill) one two =
    let same : first ≡ id = cc in
    let number : first.0 ≡ id.0 = ap (λ (i : NodeId). i.0) same in
    let behind : slice_end domains first ≤ id.0 = fill_from domains ids more (slice_end domains first) end place id fill one in
    absurd (omega arith)
member_once domains (first ∷ ids) more at end (suc place) (suc other) id (here, grows, fill) one two =
    ap suc (member_once domains ids more (slice_end domains first) end place other id fill one two)

-- no domain stands in a group and in one behind it
apart : (domains : List Domain) (ids : List NodeId) (items : List Item) (at end place other there : ℕ) (id : NodeId)
    → FillSlice domains at (ids ++ children_in items) end → slice_get ids place ≡ Some id → StandsAt items id other there → ⊥
apart domains ids items at end place other there id fill one two =
    let parted : Middle domains ids (children_in items) at end = middle_of domains ids (children_in items) at end fill in
    let low : id.0 < parted.middle = parted.before place id one in
    let behind : parted.middle ≤ id.0 = standing_from domains items parted.middle end other there id parted.rest two in
    omega arith

-- the same place
abbrev IsSame : ℕ → ℕ → ℕ → ℕ → Type 0
IsSame item place other there = (item ≡ other) × (place ≡ there)

group_once : (domains : List Domain) (items : List Item) (at end item place other there : ℕ) (id : NodeId)
    → FillSlice domains at (children_in items) end → StandsAt items id item place → StandsAt items id other there → IsSame item place other there
group_once domains [] at end item place other there id fill one two = absurd one
group_once domains (Run op ∷ items) at end zero place other there id fill one two = absurd one
group_once domains (Run op ∷ items) at end (suc item) place zero there id fill one two = absurd two
group_once domains (Run op ∷ items) at end (suc item) place (suc other) there id fill one two =
    let same : IsSame item place other there = group_once domains items at end item place other there id fill one two in
    (ap suc same.0, same.1)
group_once domains (Group ids ∷ items) at end zero place zero there id fill one two =
    (refl, member_once domains ids (children_in items) at end place there id fill one two)
group_once domains (Group ids ∷ items) at end zero place (suc other) there id fill one two =
    absurd (apart domains ids items at end place other there id fill one two)
group_once domains (Group ids ∷ items) at end (suc item) place zero there id fill one two =
    absurd (apart domains ids items at end there item place id fill two one)
group_once domains (Group ids ∷ items) at end (suc item) place (suc other) there id fill one two =
    let parted : Middle domains ids (children_in items) at end = middle_of domains ids (children_in items) at end fill in
    let same : IsSame item place other there =
    group_once domains items parted.middle end item place other there id parted.rest one two in
    (ap suc same.0, same.1)

same_place : (at there : GroupPlace) → IsSame at.item at.member there.item there.member → at ≡ there
same_place at there (items, members) =
    let make : ℕ → ℕ → GroupPlace = λ item member. record { item = item; member = member } in
    ap (λ (k : ℕ). make k at.member) items ∙ ap (make there.item) members

pub children_stand_once : (tree : TreeModel) → IsTree tree → (id one other : NodeId) (at there : GroupPlace)
    → StandsIn tree.domains one id at → StandsIn tree.domains other id there → (one ≡ other) × (at ≡ there)
children_stand_once tree is id one other at there first second =
    let parent : IsChildOf tree.domains one id = members_are_children tree is one id at first in
    let again : IsChildOf tree.domains other id = members_are_children tree is other id there second in
    let same : one ≡ other = one_parent (slice_get tree.domains id.0) one other parent.1 again.1 in
    let over : Above tree.domains other id at =
    above tree.domains other id at (subst (λ (p : NodeId). StandsIn tree.domains p id at) same first) in
    let elsewhere : Above tree.domains other id there = above tree.domains other id there second in
    let domain : elsewhere.domain ≡ over.domain = same_Some elsewhere.domain over.domain (sym elsewhere.there ∙ over.there) in
    let stands : StandsAt over.domain.items id there.item there.member =
    subst (λ (d : Domain). StandsAt d.items id there.item there.member) domain elsewhere.stands in (
      same,
      same_place at there
          (group_once tree.domains over.domain.items (suc other.0) (slice_end tree.domains other) at.item at.member there.item there.member id
          (children_fill_slices tree is other over.domain over.there) over.stands stands),
    )
  where
    one_parent : (found : Option Domain) (one other : NodeId) → IsSomeAnd found (λ d. d.parent ≡ Some one) → IsSomeAnd found (λ d. d.parent ≡ Some other) → one ≡ other
    one_parent None one other p q = absurd p
    one_parent (Some domain) one other p q = same_Some one other (sym p ∙ q)
