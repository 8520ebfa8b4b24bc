-- Lemmas on needs: that they are small, and how they are summed from the last domain to the first.
use Rattle.std.proofs.Common.{◌≡◌, ℕ, zero, suc, ◌+◌, ◌-◌, ◌*◌, ◌^◌, ◌<◌, ◌≤◌, max, List, [], ◌∷◌, ◌++◌, Option, None, Some, IsSomeAnd, length, map, take, drop, get_or, set, All, slice_get, slice_index, sum_by, refl, sym, ap, ◌∙◌, subst, inl, inr, length-append, arith}
use Rattle.std.proofs.lemmas.Bool.{cases_eq}
use Rattle.std.proofs.lemmas.List.{drop_all, length-map, length-set, get_or-set_same, get_or-set_other}
use Rattle.std.proofs.lemmas.List.Sums.{sum_by-cons}
use Rattle.std.proofs.lemmas.Option.{slice_get_within, slice_get-get_or, slice_get-map, get_or_from_slice_get, same_Some}
use Rattle.std.specs.Option.{option_map}
use Rattle.cd_base.proofs.ListLemmas.{some_of, some_and}
use Rattle.cd_tree.specs.declared.domain.NodeId.{NodeId}
use Rattle.cd_tree.specs.declared.domain.Item.{Item}
use Rattle.cd_tree.specs.declared.domain.Item.TheVariants.{Run, Group}
use Rattle.cd_tree.specs.declared.domain.Domain.{Domain}
use Rattle.cd_tree.specs.TreeModel.{TreeModel, IsTree, FitsItems, NamesChildren}
use Rattle.cd_tree.specs.Domains.{Node, number_of, Body, Members, node, members_by, body_by, body_of, put_first, nodes_from, node_of, root_of, node_numbers, body_numbers, member_numbers}
use Rattle.cd_tree.specs.Limits.{domains_limit}
use Rattle.cd_tree.specs.Meaning.{node_need, body_need, members_need}
use Rattle.cd_tree.specs.Laws.{NestedViewFollows, NeedIsRoots}
use Rattle.cd_tree.proofs.View.{length-nodes_from, members_here}
use Rattle.cd_tree.proofs.Walk.{length-numbers_from}
use Rattle.cd_cover.specs.Needs.{own_need, most_own, AreSmall, HoldsFrom, item_need, CanAdd}
use Rattle.cd_cover.proofs.Views.{map_more, view_number}
use Rattle.cd_cover.proofs.Steps.{item_at}

-- ---- the blocks of each domain's own entries

pub own_more : (domains : List Domain) (k : ℕ) (domain : Domain) → slice_get domains k ≡ Some domain → (own more : List ℕ) (n : ℕ)
    → n ≡ own_need domain → own ≡ map own_need (take k domains) → more ≡ own ++ n ∷ []
    → more ≡ map own_need (take (k + 1) domains)
own_more domains k domain there own more n value so is = map_more own_need domains k domain there own more n value so is

pub small_more : (domains : List Domain) (k : ℕ) (domain : Domain) → slice_get domains k ≡ Some domain → own_need domain ≤ most_own
    → ((i : ℕ) (d : Domain) → i < k → slice_get domains i ≡ Some d → own_need d ≤ most_own)
    → (i : ℕ) (d : Domain) → i < k + 1 → slice_get domains i ≡ Some d → own_need d ≤ most_own
small_more domains k domain there small so i d below is =
    elim (cases_eq i k) [
      | inl here ↦
          let found : slice_get domains k ≡ Some d = ap (slice_get domains) (sym here) ∙ is in
          let same : domain ≡ d = cc in
          subst (λ x. own_need x ≤ most_own) same small
      | inr other ↦ so i d (omega arith) is
    ]

-- ---- needs are small

-- at most so many blocks for each domain below and for the domain itself
abbrev Bounded : Node → Type 0
Bounded d = node_need d ≤ length (node_numbers d) * most_own

abbrev BoundedMembers : Members → Type 0
BoundedMembers members = members_need members ≤ length (member_numbers members) * most_own

abbrev BoundedBody : Body → Type 0
BoundedBody body = body_need body ≤ length (body_numbers body) * most_own

put_first_bounded : (found : Option Node) (rest : Members) → ((d : Node) → found ≡ Some d → Bounded d) → BoundedMembers rest
    → BoundedMembers (put_first found rest)
put_first_bounded None rest each bounded = bounded
put_first_bounded (Some d) rest each bounded =
    let here : Bounded d = each d refl in
    let sum : length (node_numbers d ++ member_numbers rest) ≡ length (node_numbers d) + length (member_numbers rest) =
    length-append (node_numbers d) (member_numbers rest) in
    rw sum (omega arith)

members_bounded : (find : NodeId → Option Node) (ids : List NodeId) → ((id : NodeId) (d : Node) → find id ≡ Some d → Bounded d)
    → BoundedMembers (members_by find ids)
members_bounded find [] each = omega arith
members_bounded find (id ∷ ids) each =
    put_first_bounded (find id) (members_by find ids) (each id) (members_bounded find ids each)

body_bounded : (find : NodeId → Option Node) (items : List Item) → ((id : NodeId) (d : Node) → find id ≡ Some d → Bounded d)
    → BoundedBody (body_by find items)
body_bounded find [] each = omega arith
body_bounded find (Run op ∷ items) each = body_bounded find items each
body_bounded find (Group ids ∷ items) each =
    let one : BoundedMembers (members_by find ids) = members_bounded find ids each in
    let rest : BoundedBody (body_by find items) = body_bounded find items each in
    let sum : length (member_numbers (members_by find ids) ++ body_numbers (body_by find items))
    ≡ length (member_numbers (members_by find ids)) + length (body_numbers (body_by find items)) =
    length-append (member_numbers (members_by find ids)) (body_numbers (body_by find items)) in
    rw sum (omega arith)

views_bounded : (at : ℕ) (domains : List Domain) → AreSmall domains → (k : ℕ) (d : Node) → slice_get (nodes_from at domains) k ≡ Some d
    → Bounded d
views_bounded at [] small k d is = absurd (cc)
views_bounded at (domain ∷ rest) small zero d is =
    let later : List Node = nodes_from (suc at) rest in
    let find : NodeId → Option Node = λ id. slice_get later (id.0 - suc at) in
    let own : own_need domain ≤ most_own = small 0 domain refl in
    let below : BoundedBody (body_by find domain.items) =
    body_bounded find domain.items (λ id v found. views_bounded (suc at) rest (λ k x there. small (suc k) x there) (id.0 - suc at) v found) in
    let same : node (record { 0 = at }) domain (body_by find domain.items) ≡ d = cc in
    subst Bounded same (omega arith)
views_bounded at (domain ∷ rest) small (suc k) d is = views_bounded (suc at) rest (λ j x there. small (suc j) x there) k d is

root_bounded : (domains : List Domain) → 0 < length domains → AreSmall domains → Bounded (root_of domains)
root_bounded [] some small = absurd (omega arith)
root_bounded (domain ∷ rest) some small = views_bounded 0 (domain ∷ rest) small 0 (root_of (domain ∷ rest)) refl

-- a whole program needs less than 2^44 blocks
pub root_small : (tree : TreeModel) → IsTree tree → AreSmall tree.domains → node_need (root_of tree.domains) < domains_limit * (most_own + 1)
root_small tree is small =
    let bounded : Bounded (root_of tree.domains) = root_bounded tree.domains is.some small in
    let count : length (node_numbers (root_of tree.domains)) ≡ length tree.domains =
    ap length is.preorder ∙ length-numbers_from 0 (length tree.domains) in
    let few : length tree.domains ≤ domains_limit = is.few in
    let all : node_need (root_of tree.domains) ≤ length tree.domains * most_own =
    subst (λ n. node_need (root_of tree.domains) ≤ n * most_own) count bounded in
    omega arith

-- ---- what groups need

put_first-need : (found : Option Node) (rest : Members) (n : ℕ) → IsSomeAnd found (λ d. node_need d ≡ n)
    → members_need (put_first found rest) ≡ n + members_need rest
put_first-need None rest n is = absurd is
put_first-need (Some d) rest n is = rw is

-- members' needs, kept by their numbers
members_sum : (domains : List Domain) (at : ℕ) (needs : List ℕ) (ids : List NodeId) → NamesChildren domains at ids
    → HoldsFrom domains (at + 1) needs
    → sum_by (λ (id : NodeId). slice_index needs id.0) ids ≡ members_need (members_by (node_of domains) ids)
members_sum domains at needs [] named holds = refl
members_sum domains at needs (id ∷ ids) (above, child, named) holds =
    let need : NodeId → ℕ = λ i. slice_index needs i.0 in
    let found = some_of (slice_get domains id.0) (λ d. d.parent ≡ Some (record { 0 = at })) child in
    let view = some_of (node_of domains id) (λ d. number_of d ≡ id.0) (view_number domains id found.0 found.1) in
    let kept : slice_get needs id.0 ≡ Some (node_need view.0) = holds id.0 view.0 (omega arith) view.1 in
    let here : need id ≡ node_need view.0 = get_or_from_slice_get needs id.0 (node_need view.0) 0 kept in
    sum_by-cons need id ids
    ∙ ap (λ n. need id + n) (members_sum domains at needs ids named holds)
    ∙ sym (put_first-need (node_of domains id) (members_by (node_of domains) ids) (need id)
    (some_and (node_of domains id) (λ d. node_need d ≡ need id) view.0 view.1 (sym here)))

-- the greatest so far, with those of the groups that are left, is the greatest of all
pub record GroupsLeft (domains : List Domain) (at so : ℕ) (items all : List Item) : Type 0 where
  pub greatest : max so (body_need (body_by (node_of domains) items)) ≡ body_need (body_by (node_of domains) all)
  pub fits : FitsItems domains at items

pub groups_all : (domains : List Domain) (at : ℕ) (all : List Item) → FitsItems domains at all → GroupsLeft domains at 0 all all
groups_all domains at all fits = record { greatest = omega arith; fits = fits }

-- the item at which the loop stands
at_item : (domains : List Domain) (at so : ℕ) (items : List Item) (i : ℕ) (item : Item) → i < length items → item ≡ get_or items i item
    → GroupsLeft domains at so (drop i items) items → GroupsLeft domains at so (item ∷ drop (i + 1) items) items
at_item domains at so items i item within is left =
    subst (λ (xs : List Item). GroupsLeft domains at so xs items) (item_at items i item item within is refl) left

less_one : (domains : List Domain) (at so : ℕ) (needs : List ℕ) (item : Item) (rest all : List Item) → HoldsFrom domains (at + 1) needs
    → GroupsLeft domains at so (item ∷ rest) all → GroupsLeft domains at (max so (item_need needs item)) rest all
less_one domains at so needs (Run op) rest all holds left =
    let none : max so 0 ≡ so = omega arith in
    record { greatest = ap (λ n. max n (body_need (body_by (node_of domains) rest))) none ∙ left.greatest; fits = left.fits.2 }
less_one domains at so needs (Group ids) rest all holds left =
    let sum : item_need needs (Group ids) ≡ members_need (members_by (node_of domains) ids) = members_sum domains at needs ids left.fits.2 holds in
    let greatest : max so (max (members_need (members_by (node_of domains) ids)) (body_need (body_by (node_of domains) rest)))
    ≡ body_need (body_by (node_of domains) all) =
    left.greatest in
    record { greatest = omega arith; fits = left.fits.3 }

-- one item more
pub item_less : (domains : List Domain) (at so : ℕ) (needs : List ℕ) (items : List Item) (i : ℕ) (item : Item) → i < length items
    → item ≡ get_or items i item → HoldsFrom domains (at + 1) needs → GroupsLeft domains at so (drop i items) items
    → GroupsLeft domains at (max so (item_need needs item)) (drop (i + 1) items) items
item_less domains at so needs items i item within is holds left =
    less_one domains at so needs item (drop (i + 1) items) items holds (at_item domains at so items i item within is left)

can_add_one : (domains : List Domain) (at so : ℕ) (needs : List ℕ) (item : Item) (rest all : List Item) → HoldsFrom domains (at + 1) needs
    → length needs ≡ length domains → body_need (body_by (node_of domains) all) < 2 ^ 64 → GroupsLeft domains at so (item ∷ rest) all
    → CanAdd needs item
can_add_one domains at so needs (Run op) rest all holds size fits left = tt
can_add_one domains at so needs (Group ids) rest all holds size fits left =
    let sum : item_need needs (Group ids) ≡ members_need (members_by (node_of domains) ids) = members_sum domains at needs ids left.fits.2 holds in
    let greatest : max so (max (members_need (members_by (node_of domains) ids)) (body_need (body_by (node_of domains) rest)))
    ≡ body_need (body_by (node_of domains) all) =
    left.greatest in
    let within : item_need needs (Group ids) < 2 ^ 64 = omega arith in
    (subst (λ (n : ℕ). All (λ (id : NodeId). id.0 < n) ids) (sym size) (members_here domains at ids left.fits.2), within)

-- an item can be added
pub can_add : (domains : List Domain) (at so : ℕ) (needs : List ℕ) (items : List Item) (i : ℕ) (item : Item) → i < length items
    → item ≡ get_or items i item → HoldsFrom domains (at + 1) needs → length needs ≡ length domains
    → body_need (body_by (node_of domains) items) < 2 ^ 64 → GroupsLeft domains at so (drop i items) items → CanAdd needs item
can_add domains at so needs items i item within is holds size fits left =
    can_add_one domains at so needs item (drop (i + 1) items) items holds size fits (at_item domains at so items i item within is left)

pub groups_end : (domains : List Domain) (at so : ℕ) (items : List Item) (i : ℕ) → length items ≤ i → GroupsLeft domains at so (drop i items) items
    → so ≡ body_need (body_by (node_of domains) items)
groups_end domains at so items i past left =
    let none : GroupsLeft domains at so [] items = subst (λ (xs : List Item). GroupsLeft domains at so xs items) (drop_all i items past) left in
    let greatest : max so 0 ≡ body_need (body_by (node_of domains) items) = none.greatest in
    omega arith

-- what groups need together, in the view of their domain
pub in_view : (tree : TreeModel) → IsTree tree → NestedViewFollows → (id : NodeId) (domain : Domain) → slice_get tree.domains id.0 ≡ Some domain
    → (P : ℕ → Type 0) → P (body_need (body_by (node_of tree.domains) domain.items)) → IsSomeAnd (node_of tree.domains id) (λ d. P (body_need (body_of d)))
in_view tree is views id domain there P holds =
    some_and (node_of tree.domains id) (λ d. P (body_need (body_of d))) (node id domain (body_by (node_of tree.domains) domain.items))
    (views tree is id domain there) holds

pub of_view : (tree : TreeModel) → IsTree tree → NestedViewFollows → (id : NodeId) (domain : Domain) → slice_get tree.domains id.0 ≡ Some domain
    → (P : ℕ → Type 0) → IsSomeAnd (node_of tree.domains id) (λ d. P (body_need (body_of d))) → P (body_need (body_by (node_of tree.domains) domain.items))
of_view tree is views id domain there P holds =
    subst (λ o. IsSomeAnd o (λ d. P (body_need (body_of d)))) (views tree is id domain there) holds

-- ---- from the last domain to the first

set_same : (xs : List ℕ) (i v : ℕ) → i < length xs → slice_get (set xs i v) i ≡ Some v
set_same xs i v within =
    let size : length (set xs i v) ≡ length xs = length-set xs i v in
    slice_get-get_or (set xs i v) i v (omega arith) ∙ ap Some (get_or-set_same xs i v v within)

set_other : (xs : List ℕ) (i j v : ℕ) → (i ≡ j → ⊥) → i < length xs → slice_get (set xs j v) i ≡ slice_get xs i
set_other xs i j v other within =
    let size : length (set xs j v) ≡ length xs = length-set xs j v in
    slice_get-get_or (set xs j v) i v (omega arith) ∙ ap Some (get_or-set_other xs j i v v other) ∙ sym (slice_get-get_or xs i v within)

-- from a number on there are needs, and below it each domain's own blocks
pub record NeedsDown (domains : List Domain) (from : ℕ) (needs : List ℕ) : Type 0 where
  pub size : length needs ≡ length domains
  pub holds : HoldsFrom domains from needs
  pub own : (k : ℕ) (domain : Domain) → k < from → slice_get domains k ≡ Some domain → slice_get needs k ≡ Some (own_need domain)

pub down_all : (domains : List Domain) (needs : List ℕ) → needs ≡ map own_need domains → NeedsDown domains (length domains) needs
down_all domains needs is =
    record {
      size = ap length is ∙ length-map domains own_need;
      holds = λ k d from there. absurd (past k d from there);
      own = λ k domain below there.
          ap (λ xs. slice_get xs k) is ∙ slice_get-map own_need domains k ∙ ap (option_map own_need) there;
    }
  where
    past : (k : ℕ) (d : Node) → length domains ≤ k → slice_get (nodes_from 0 domains) k ≡ Some d → ⊥
    past k d from there =
        let within : k < length (nodes_from 0 domains) = slice_get_within (nodes_from 0 domains) k d there in
        let size : length (nodes_from 0 domains) ≡ length domains = length-nodes_from 0 domains in
        omega arith

pub down_one : (tree : TreeModel) → IsTree tree → NestedViewFollows → (id : NodeId) (domain : Domain) → slice_get tree.domains id.0 ≡ Some domain
    → (needs : List ℕ) (v more : ℕ) → v ≡ get_or needs id.0 v
    → IsSomeAnd (node_of tree.domains id) (λ d. more ≡ body_need (body_of d))
    → NeedsDown tree.domains (id.0 + 1) needs → NeedsDown tree.domains id.0 (set needs id.0 (v + more))
down_one tree is views id domain there needs v more read adds down =
    let within : id.0 < length needs =
    let inside : id.0 < length tree.domains = slice_get_within tree.domains id.0 domain there in
    let size : length needs ≡ length tree.domains = down.size in
    omega arith in
    let view : Node = node id domain (body_by (node_of tree.domains) domain.items) in
    let here : node_of tree.domains id ≡ Some view = views tree is id domain there in
    let value : v + more ≡ node_need view =
    let old : v ≡ own_need domain =
    read ∙ get_or_from_slice_get needs id.0 (own_need domain) v (down.own id.0 domain (omega arith) there) in
    let new : more ≡ body_need (body_by (node_of tree.domains) domain.items) =
    of_view tree is views id domain there (λ n. more ≡ n) adds in
    omega arith in
    record {
      size = length-set needs id.0 (v + more) ∙ down.size;
      holds = λ k d from found.
          elim (cases_eq k id.0) [
            | inl same ↦
                let first : slice_get (nodes_from 0 tree.domains) id.0 ≡ Some d = ap (slice_get (nodes_from 0 tree.domains)) (sym same) ∙ found in
                let equal : view ≡ d = same_Some view d (sym here ∙ first) in
                ap (slice_get (set needs id.0 (v + more))) same ∙ set_same needs id.0 (v + more) within ∙ ap Some (value ∙ ap node_need equal)
            | inr other ↦
                let kept : slice_get needs k ≡ Some (node_need d) = down.holds k d (omega arith) found in
                set_other needs k id.0 (v + more) other (slice_get_within needs k (node_need d) kept) ∙ kept
          ];
      own = λ k d below found.
          let kept : slice_get needs k ≡ Some (own_need d) = down.own k d (omega arith) found in
          let other : k ≡ id.0 → ⊥ = λ same. omega arith in
          set_other needs k id.0 (v + more) other (slice_get_within needs k (own_need d) kept) ∙ kept;
    }

same_as_map : (needs : List ℕ) (views : List Node) → length needs ≡ length views
    → ((k : ℕ) (d : Node) → slice_get views k ≡ Some d → slice_get needs k ≡ Some (node_need d)) → needs ≡ map node_need views
same_as_map [] [] size each = refl
same_as_map [] (view ∷ views) size each = absurd (omega arith)
same_as_map (need ∷ needs) [] size each = absurd (omega arith)
same_as_map (need ∷ needs) (view ∷ views) size each =
    let first : need ≡ node_need view = same_Some need (node_need view) (each 0 view refl) in
    let rest : needs ≡ map node_need views = same_as_map needs views (omega arith) (λ k d there. each (suc k) d there) in
    cc

pub down_end : (domains : List Domain) (k : ℕ) (needs : List ℕ) → k ≡ 0 → NeedsDown domains k needs
    → needs ≡ map node_need (nodes_from 0 domains)
down_end domains k needs none down =
    same_as_map needs (nodes_from 0 domains) (down.size ∙ sym (length-nodes_from 0 domains)) (λ i d there. down.holds i d (omega arith) there)

-- a domain needs less than 2^44 blocks
pub need_small : (tree : TreeModel) → IsTree tree → NestedViewFollows → NeedIsRoots → AreSmall tree.domains → (id : NodeId) (domain : Domain)
    → slice_get tree.domains id.0 ≡ Some domain
    → own_need domain + body_need (body_by (node_of tree.domains) domain.items) < domains_limit * (most_own + 1)
need_small tree is views roots small id domain there =
    let most : node_need (root_of tree.domains) < domains_limit * (most_own + 1) = root_small tree is small in
    let here : node_need (node id domain (body_by (node_of tree.domains) domain.items)) ≤ node_need (root_of tree.domains) =
    roots tree is id (node id domain (body_by (node_of tree.domains) domain.items)) (views tree is id domain there) in
    omega arith

pub added_small : (tree : TreeModel) → IsTree tree → NestedViewFollows → NeedIsRoots → AreSmall tree.domains → (id : NodeId) (domain : Domain)
    → slice_get tree.domains id.0 ≡ Some domain → (needs : List ℕ) (v more : ℕ) → v ≡ get_or needs id.0 v
    → IsSomeAnd (node_of tree.domains id) (λ d. more ≡ body_need (body_of d))
    → (k : ℕ) → k ≡ id.0 + 1 → NeedsDown tree.domains k needs → v + more < domains_limit * (most_own + 1)
added_small tree is views roots small id domain there needs v more read adds k next down =
    let all : own_need domain + body_need (body_by (node_of tree.domains) domain.items) < domains_limit * (most_own + 1) =
    need_small tree is views roots small id domain there in
    let old : v ≡ own_need domain =
    read ∙ get_or_from_slice_get needs id.0 (own_need domain) v (down.own id.0 domain (omega arith) there) in
    let new : more ≡ body_need (body_by (node_of tree.domains) domain.items) =
    of_view tree is views id domain there (λ n. more ≡ n) adds in
    omega arith
