-- The steps of the loops over entries, members and items.
use Rattle.std.proofs.Common.{◌≡◌, ℕ, ◌+◌, ◌<◌, ◌≤◌, true, false, ◌&&◌, ◌||◌, ◌==◌, List, ◌∷◌, Option, None, Some, IsSomeAnd, length, get_or, drop, slice_get, refl, sym, ap, ◌∙◌, subst, add-one}
use Rattle.std.specs.List.{list_any}
use Rattle.std.proofs.lemmas.List.{drop_more, drop_all}
use Rattle.std.proofs.lemmas.Bool.{and_right}
use Rattle.cd_base.specs.declared.place.Place.{Place}
use Rattle.cd_base.specs.declared.place.Range.{Range}
use Rattle.cd_base.specs.Words.{PlaceSet, in_range}
use Rattle.cd_base.specs.Places.{IsLeast}
use Rattle.cd_base.proofs.ListLemmas.{some_and}
use Rattle.cd_base.proofs.BoolLemmas.{and-or}
use Rattle.cd_tree.specs.declared.domain.NodeId.{NodeId}
use Rattle.cd_tree.specs.declared.domain.Item.{Item}
use Rattle.cd_tree.specs.declared.domain.Item.TheVariants.{Run, Group}
use Rattle.cd_tree.specs.declared.domain.Entry.{Entry}
use Rattle.cd_tree.specs.declared.domain.Domain.{Domain}
use Rattle.cd_tree.specs.declared.operation.Op.{Op}
use Rattle.cd_tree.specs.Operations.{op_writes}
use Rattle.cd_tree.specs.TreeModel.{TreeModel, IsTree, FitsItems, NamesChildren}
use Rattle.cd_tree.specs.Domains.{Node, Members, node, body_of, members_by, body_by, put_first, node_of}
use Rattle.cd_tree.specs.Meaning.{node_writes, member_writes}
use Rattle.cd_tree.specs.Laws.{NestedViewFollows}
use Rattle.cd_cover.specs.Least.{earlier_of}
use Rattle.cd_cover.specs.Links.{is_kept, holds_range, holder, has_member, written_before}
use Rattle.cd_cover.proofs.LeastLemmas.{Leaves, leaves_all, leaves_less, leaves_none}
use Rattle.cd_cover.proofs.Views.{has_member-members_by}

-- ---- entries

pub holder_here : (r : Range) (entries : List Entry) (i : ℕ) (d : Entry) → i < length entries
    → (is_kept (get_or entries i d).how && holds_range (get_or entries i d).range r) ≡ true
    → holder r i (drop i entries) ≡ Some (i, get_or entries i d)
holder_here r entries i d within kept = rw (drop_more entries i d within, kept)

pub holder_behind : (r : Range) (entries : List Entry) (i : ℕ) (d : Entry) → i < length entries
    → (is_kept (get_or entries i d).how && holds_range (get_or entries i d).range r) ≡ false
    → holder r i (drop i entries) ≡ holder r (i + 1) (drop (i + 1) entries)
holder_behind r entries i d within kept = rw (drop_more entries i d within, kept, add-one)

-- ---- members

-- the places of a range that members write
abbrev pub by_members : Range → (NodeId → Option Node) → List NodeId → PlaceSet
by_members r find ids q = in_range r q && member_writes (members_by find ids) q

-- the places of a range that items write before the group with a child
abbrev pub by_items : Range → ℕ → (NodeId → Option Node) → List Item → PlaceSet
by_items r child find items q = in_range r q && written_before child (body_by find items) q

first_member : (r : Range) (found : Option Node) (rest : Members) (x : Option Place) (left : PlaceSet)
    → ((q : Place) → (in_range r q && member_writes (put_first found rest) q) ≡ left q)
    → IsSomeAnd found (λ d. IsLeast (λ q. in_range r q && node_writes d q) x)
    → (S : PlaceSet) × IsLeast S x × ((q : Place) → (S q || (in_range r q && member_writes rest q)) ≡ left q)
first_member r None rest x left same here = absurd here
first_member r (Some d) rest x left same here =
    (λ q. in_range r q && node_writes d q, here, λ q. sym (and-or (in_range r q) (node_writes d q) (member_writes rest q)) ∙ same q)

pub member_less : (r : Range) (find : NodeId → Option Node) (ids : List NodeId) (i : ℕ) (d : NodeId) (found x : Option Place) (whole : PlaceSet)
    → i < length ids
    → IsSomeAnd (find (get_or ids i d)) (λ v. IsLeast (λ q. in_range r q && node_writes v q) x)
    → Leaves found (by_members r find (drop i ids)) whole
    → Leaves (earlier_of found x) (by_members r find (drop (i + 1) ids)) whole
member_less r find ids i d found x whole within here so =
    let left : PlaceSet = by_members r find (drop i ids) in
    let rest : List NodeId = drop (i + 1) ids in
    let parts = first_member r (find (get_or ids i d)) (members_by find rest) x left
    (λ q. ap (λ (xs : List NodeId). by_members r find xs q) (sym (drop_more ids i d within))) here in
    leaves_less found x parts.0 (by_members r find rest) left whole so parts.2 parts.1

-- ---- items

-- the search among the items of domain `at` for the least place of a range that is written before the group with a child
pub record ItemsLeft (domains : List Domain) (at : ℕ) (r : Range) (child : ℕ) (found : Option Place) (items all : List Item) : Type 0 where
  pub least : Leaves found (by_items r child (node_of domains) items) (by_items r child (node_of domains) all)
  pub fits : FitsItems domains at items

pub items_all : (domains : List Domain) (at : ℕ) (r : Range) (child : ℕ) (all : List Item) → FitsItems domains at all
    → ItemsLeft domains at r child None all all
items_all domains at r child all fits = record { least = leaves_all (by_items r child (node_of domains) all); fits = fits }

run_less : (domains : List Domain) (at : ℕ) (r : Range) (child : ℕ) (found x : Option Place) (op : Op) (rest all : List Item)
    → IsLeast (λ q. in_range r q && in_range (op_writes op) q) x → ItemsLeft domains at r child found (Run op ∷ rest) all
    → ItemsLeft domains at r child (earlier_of found x) rest all
run_less domains at r child found x op rest all here left =
    record {
      least = leaves_less found x (λ q. in_range r q && in_range (op_writes op) q) (by_items r child (node_of domains) rest)
          (by_items r child (node_of domains) (Run op ∷ rest)) (by_items r child (node_of domains) all) left.least
          (λ q. sym (and-or (in_range r q) (in_range (op_writes op) q) (written_before child (body_by (node_of domains) rest) q))) here;
      fits = left.fits.2;
    }

group_less : (domains : List Domain) (at : ℕ) (r : Range) (child : ℕ) (found x : Option Place) (ids : List NodeId) (rest all : List Item)
    → list_any (λ (m : NodeId). m.0 == child) ids ≡ false → IsLeast (by_members r (node_of domains) ids) x
    → ItemsLeft domains at r child found (Group ids ∷ rest) all
    → ItemsLeft domains at r child (earlier_of found x) rest all
group_less domains at r child found x ids rest all not here left =
    let absent : has_member child (members_by (node_of domains) ids) ≡ false =
    has_member-members_by domains at child ids left.fits.2 ∙ not in
    record {
      least = leaves_less found x (by_members r (node_of domains) ids) (by_items r child (node_of domains) rest)
          (by_items r child (node_of domains) (Group ids ∷ rest)) (by_items r child (node_of domains) all) left.least
          (λ q.
          sym (and-or (in_range r q) (member_writes (members_by (node_of domains) ids) q) (written_before child (body_by (node_of domains) rest) q))
          ∙ rw absent)
          here;
      fits = left.fits.3;
    }

group_ends : (domains : List Domain) (at : ℕ) (r : Range) (child : ℕ) (found : Option Place) (ids : List NodeId) (rest all : List Item)
    → list_any (λ (m : NodeId). m.0 == child) ids ≡ true
    → ItemsLeft domains at r child found (Group ids ∷ rest) all
    → IsLeast (by_items r child (node_of domains) all) found
group_ends domains at r child found ids rest all among left =
    let present : has_member child (members_by (node_of domains) ids) ≡ true =
    has_member-members_by domains at child ids left.fits.2 ∙ among in
    leaves_none found (by_items r child (node_of domains) (Group ids ∷ rest)) (by_items r child (node_of domains) all) left.least
    (λ q. and_right (in_range r q) (written_before child (body_by (node_of domains) (Group ids ∷ rest)) q) (rw present))

pub item_at : (items : List Item) (i : ℕ) (item what : Item) → i < length items → item ≡ get_or items i item → item ≡ what
    → drop i items ≡ what ∷ drop (i + 1) items
item_at items i item what within is kind =
    drop_more items i item within ∙ ap (λ (x : Item). x ∷ drop (i + 1) items) (sym is ∙ kind)

pub run_at : (domains : List Domain) (at : ℕ) (r : Range) (child : ℕ) (found x : Option Place) (items : List Item) (i : ℕ) (item : Item) (op : Op)
    → i < length items → item ≡ get_or items i item → item ≡ Run op
    → IsLeast (λ q. in_range r q && in_range (op_writes op) q) x → ItemsLeft domains at r child found (drop i items) items
    → ItemsLeft domains at r child (earlier_of found x) (drop (i + 1) items) items
run_at domains at r child found x items i item op within is kind here left =
    run_less domains at r child found x op (drop (i + 1) items) items here
    (subst (λ (xs : List Item). ItemsLeft domains at r child found xs items) (item_at items i item (Run op) within is kind) left)

pub group_at : (domains : List Domain) (at : ℕ) (r : Range) (child : ℕ) (found x : Option Place) (items : List Item) (i : ℕ) (item : Item)
    (ids : List NodeId) → i < length items → item ≡ get_or items i item → item ≡ Group ids
    → list_any (λ (m : NodeId). m.0 == child) ids ≡ false → IsLeast (by_members r (node_of domains) ids) x
    → ItemsLeft domains at r child found (drop i items) items
    → ItemsLeft domains at r child (earlier_of found x) (drop (i + 1) items) items
group_at domains at r child found x items i item ids within is kind not here left =
    group_less domains at r child found x ids (drop (i + 1) items) items not here
    (subst (λ (xs : List Item). ItemsLeft domains at r child found xs items) (item_at items i item (Group ids) within is kind) left)

pub group_with_child : (domains : List Domain) (at : ℕ) (r : Range) (child : ℕ) (found : Option Place) (items : List Item) (i : ℕ) (item : Item)
    (ids : List NodeId) → i < length items → item ≡ get_or items i item → item ≡ Group ids
    → list_any (λ (m : NodeId). m.0 == child) ids ≡ true
    → ItemsLeft domains at r child found (drop i items) items
    → IsLeast (by_items r child (node_of domains) items) found
group_with_child domains at r child found items i item ids within is kind among left =
    group_ends domains at r child found ids (drop (i + 1) items) items among
    (subst (λ (xs : List Item). ItemsLeft domains at r child found xs items) (item_at items i item (Group ids) within is kind) left)

pub items_end : (domains : List Domain) (at : ℕ) (r : Range) (child : ℕ) (found : Option Place) (items : List Item) (i : ℕ)
    → length items ≤ i → ItemsLeft domains at r child found (drop i items) items
    → IsLeast (by_items r child (node_of domains) items) found
items_end domains at r child found items i past left =
    leaves_none found (by_items r child (node_of domains) (drop i items)) (by_items r child (node_of domains) items) left.least
    (λ q. rw (drop_all i items past) (and_right (in_range r q) false refl))

-- the members named by the group at which a search stands
pub named_at : (domains : List Domain) (at : ℕ) (r : Range) (child : ℕ) (found : Option Place) (items : List Item) (i : ℕ) (item : Item)
    (ids : List NodeId) → i < length items → item ≡ get_or items i item → item ≡ Group ids
    → ItemsLeft domains at r child found (drop i items) items → NamesChildren domains at ids
named_at domains at r child found items i item ids within is kind left =
    let fits : FitsItems domains at (Group ids ∷ drop (i + 1) items) =
    subst (FitsItems domains at) (item_at items i item (Group ids) within is kind) left.fits in
    fits.2

pub members_end : (r : Range) (find : NodeId → Option Node) (ids : List NodeId) (i : ℕ) (found : Option Place) → length ids ≤ i
    → Leaves found (by_members r find (drop i ids)) (by_members r find ids) → IsLeast (by_members r find ids) found
members_end r find ids i found past left =
    leaves_none found (by_members r find (drop i ids)) (by_members r find ids) left
    (λ q. rw (drop_all i ids past) (and_right (in_range r q) false refl))

-- what the items of a domain write is what its view says
pub at_view : (tree : TreeModel) → IsTree tree → NestedViewFollows → (parent : NodeId) (above : Domain) → slice_get tree.domains parent.0 ≡ Some above
    → (r : Range) (child : ℕ) (items : List Item) → items ≡ above.items → (x : Option Place)
    → IsLeast (by_items r child (node_of tree.domains) items) x
    → IsSomeAnd (node_of tree.domains parent) (λ d. IsLeast (λ q. in_range r q && written_before child (body_of d) q) x)
at_view tree is views parent above here r child items same x least =
    some_and (node_of tree.domains parent) (λ d. IsLeast (λ q. in_range r q && written_before child (body_of d) q) x)
    (node parent above (body_by (node_of tree.domains) above.items)) (views tree is parent above here)
    (subst (λ (xs : List Item). IsLeast (by_items r child (node_of tree.domains) xs) x) same least)
