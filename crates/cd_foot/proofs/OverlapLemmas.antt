-- Siblings compared pair by pair: what is left to compare gives the answer to the whole.
use Rattle.std.proofs.Common.{◌≡◌, ℕ, zero, suc, ◌+◌, ◌<◌, ◌≤◌, Bool, true, ◌&&◌, ◌||◌, List, [], ◌∷◌, ◌++◌, length, drop, get_or, All, Option, None, Some, slice_get, refl, sym, ap, subst, ◌∙◌, inl, inr, arith, IsSomeAnd}
use Rattle.std.proofs.lemmas.List.{drop_more, drop_all}
use Rattle.cd_base.specs.declared.place.Place.{Place}
use Rattle.cd_base.specs.declared.place.Range.{Range}
use Rattle.cd_base.specs.Words.{PlaceSet, in_ranges}
use Rattle.cd_base.specs.Places.{IsLeast, in_both}
use Rattle.cd_base.proofs.ListLemmas.{drop-read, drop-found}
use Rattle.cd_base.proofs.LeastLemmas.{IsLeast-of}
use Rattle.cd_tree.specs.declared.domain.NodeId.{NodeId}
use Rattle.cd_tree.specs.declared.domain.Item.{Item}
use Rattle.cd_tree.specs.declared.domain.Item.TheVariants.{Run, Group}
use Rattle.cd_tree.specs.declared.domain.Domain.{Domain}
use Rattle.cd_tree.specs.declared.refusal.Refusal.{Refusal}
use Rattle.cd_tree.specs.declared.refusal.Refusal.TheVariants.{Overlap}
use Rattle.cd_tree.specs.Domains.{Node, Body, Members, node, stop, run, group, no_more, member, members_by, body_by, nodes_from, node_of, number_of, body_of, root_of}
use Rattle.cd_tree.specs.Meaning.{node_reach, node_writes, clash, IsApartFrom, MembersApart, GroupsApart, IsDisjoint}
use Rattle.cd_tree.specs.TreeModel.{TreeModel, IsTree}
use Rattle.cd_tree.specs.Laws.{OfEach, DisjointByDomains}
use Rattle.cd_tree.specs.Refusals.{FirstOf}
use Rattle.cd_tree.proofs.View.{nested_view_follows, length-nodes_from, members_by-found}
use Rattle.cd_foot.specs.declared.footprints.Foot.{Foot}
use Rattle.cd_foot.specs.Feet.{IsFoot, AreFeet}
use Rattle.cd_foot.specs.Overlaps.{pairs_with, pairs_among, sibling_pairs, OverlapOf, FirstOverlap}
use Rattle.cd_foot.specs.Siblings.{PairOf, item_pairs}

-- ---- the first refusal of two lists, one after the other

first_some : {A : Type 0} (Says : A → Option Refusal → Type 0) (xs ys : List A) (r : Refusal) → FirstOf Says xs (Some r) → FirstOf Says (xs ++ ys) (Some r)
first_some Says [] ys r says = absurd (cc)
first_some Says (x ∷ xs) ys r says = elim says [
  | inl here ↦ inl here
  | inr later ↦ inr (later.0, first_some Says xs ys r later.1)
]

first_none : {A : Type 0} (Says : A → Option Refusal → Type 0) (xs ys : List A) (answer : Option Refusal) → FirstOf Says xs None → FirstOf Says ys answer
    → FirstOf Says (xs ++ ys) answer
first_none Says [] ys answer says more = more
first_none Says (x ∷ xs) ys None says more = (says.0, first_none Says xs ys None says.1 more)
first_none Says (x ∷ xs) ys (Some r) says more = inr (says.0, first_none Says xs ys (Some r) says.1 more)

none_before : {A : Type 0} (Says : A → Option Refusal → Type 0) (xs ys : List A) → FirstOf Says (xs ++ ys) None → FirstOf Says xs None × FirstOf Says ys None
none_before Says [] ys says = (refl, says)
none_before Says (x ∷ xs) ys says = let parts = none_before Says xs ys says.1 in ((says.0, parts.0), parts.1)

-- a list of one answers as that one does
one_alone : {A : Type 0} (Says : A → Option Refusal → Type 0) (x : A) (answer : Option Refusal) → Says x answer → FirstOf Says (x ∷ []) answer
one_alone Says x None says = (says, refl)
one_alone Says x (Some r) says = inl says

-- a list does not answer both ways where none of its elements does
one_answer : {A : Type 0} (Says : A → Option Refusal → Type 0) (r : Refusal) → ((x : A) → Says x None → Says x (Some r) → ⊥)
    → (xs : List A) → FirstOf Says xs None → FirstOf Says xs (Some r) → ⊥
one_answer Says r never [] none some = absurd (cc)
one_answer Says r never (x ∷ xs) none some = elim some [
  | inl here ↦ never x none.0 here
  | inr later ↦ one_answer Says r never xs none.1 later.1
]

-- what answers for the rest answers for the whole
abbrev pub Leads : {A : Type 0} → (A → Option Refusal → Type 0) → List A → List A → Type 0
Leads Says rest whole = (answer : Option Refusal) → FirstOf Says rest answer → FirstOf Says whole answer

leads_on : {A : Type 0} (Says : A → Option Refusal → Type 0) (left part rest whole : List A)
    → left ≡ part ++ rest → FirstOf Says part None → Leads Says left whole → Leads Says rest whole
leads_on Says left part rest whole is none leads answer says =
    leads answer (subst (λ xs. FirstOf Says xs answer) (sym is) (first_none Says part rest answer none says))

leads_out : {A : Type 0} (Says : A → Option Refusal → Type 0) (left part rest whole : List A) (r : Refusal)
    → left ≡ part ++ rest → FirstOf Says part (Some r) → Leads Says left whole → FirstOf Says whole (Some r)
leads_out Says left part rest whole r is some leads =
    leads (Some r) (subst (λ xs. FirstOf Says xs (Some r)) (sym is) (first_some Says part rest r some))

-- a part more was asked: where it refuses nothing, what is left still answers for the whole; else the whole refuses the same
abbrev pub Passed : {A : Type 0} → (A → Option Refusal → Type 0) → List A → List A → Option Refusal → Type 0
Passed Says rest whole None = Leads Says rest whole
Passed Says rest whole (Some r) = FirstOf Says whole (Some r)

passed : {A : Type 0} (Says : A → Option Refusal → Type 0) (left part rest whole : List A) (answer : Option Refusal)
    → left ≡ part ++ rest → FirstOf Says part answer → Leads Says left whole → Passed Says rest whole answer
passed Says left part rest whole None is none leads = leads_on Says left part rest whole is none leads
passed Says left part rest whole (Some r) is some leads = leads_out Says left part rest whole r is some leads

-- ---- domains found by their numbers

listed_node : (at : ℕ) (domains : List Domain) (k : ℕ) → k < length domains
    → (d : Node) × (slice_get (nodes_from at domains) k ≡ Some d) × (number_of d ≡ at + k)
listed_node at [] k within = absurd (omega arith)
listed_node at (domain ∷ domains) zero within = (_, refl, omega arith)
listed_node at (domain ∷ domains) (suc k) within =
    let found = listed_node (suc at) domains k (omega arith) in
    (found.0, found.1, (let number = found.2 in omega (arith, number)))

pub found_node : (domains : List Domain) (id : NodeId) → id.0 < length domains → (d : Node) × (node_of domains id ≡ Some d) × (id.0 ≡ number_of d)
found_node domains id within =
    let found = listed_node 0 domains id.0 within in
    (found.0, found.1, (let number = found.2 in omega (arith, number)))

number_found : (domains : List Domain) (id : NodeId) (d : Node) → node_of domains id ≡ Some d → id.0 < length domains → id.0 ≡ number_of d
number_found domains id d found within =
    let listed = found_node domains id within in
    let same : listed.0 ≡ d = cc in
    listed.2 ∙ ap number_of same

-- ---- what is left of a list of members or items

pairs_with-left : (find : NodeId → Option Node) (one : Node) (left : List NodeId) (id : NodeId) (ids : List NodeId) (d : Node)
    → left ≡ id ∷ ids → find id ≡ Some d
    → pairs_with one (members_by find left) ≡ ((one, d) ∷ []) ++ pairs_with one (members_by find ids)
pairs_with-left find one left id ids d is found =
    ap (λ (l : List NodeId). pairs_with one (members_by find l)) is ∙ ap (pairs_with one) (members_by-found find id ids d found)

pairs_among-left : (find : NodeId → Option Node) (left : List NodeId) (id : NodeId) (ids seen : List NodeId) (d : Node)
    → left ≡ id ∷ ids → seen ≡ ids → find id ≡ Some d
    → pairs_among (members_by find left) ≡ pairs_with d (members_by find seen) ++ pairs_among (members_by find ids)
pairs_among-left find left id ids seen d is same found =
    ap (λ (l : List NodeId). pairs_among (members_by find l)) is ∙ ap pairs_among (members_by-found find id ids d found)
    ∙ ap (λ (l : List NodeId). pairs_with d (members_by find l) ++ pairs_among (members_by find ids)) (sym same)

sibling_pairs-item : (find : NodeId → Option Node) (item : Item) (items : List Item)
    → sibling_pairs (body_by find (item ∷ items)) ≡ item_pairs find item ++ sibling_pairs (body_by find items)
sibling_pairs-item find (Run op) items = refl
sibling_pairs-item find (Group ids) items = refl

sibling_pairs-left : (find : NodeId → Option Node) (left : List Item) (item : Item) (items : List Item) → left ≡ item ∷ items
    → sibling_pairs (body_by find left) ≡ item_pairs find item ++ sibling_pairs (body_by find items)
sibling_pairs-left find left item items is = ap (λ (l : List Item). sibling_pairs (body_by find l)) is ∙ sibling_pairs-item find item items

-- ---- one pair

-- what a footprint records on one of its sides is what the domain has there
side_places : (domains : List Domain) (feet : List Foot) (id : NodeId) (d : Node) (set : List Range) (side : Foot → List Range) (places : Node → PlaceSet)
    → ((foot : Foot) → IsFoot d foot → (p : Place) → in_ranges (side foot) p ≡ places d p)
    → AreFeet domains feet → node_of domains id ≡ Some d → IsSomeAnd (slice_get feet id.0) (λ foot. set ≡ side foot)
    → (p : Place) → in_ranges set p ≡ places d p
side_places domains feet id d set side places have are found says p = of_some (slice_get feet id.0) refl says
  where
    of_some : (o : Option Foot) → slice_get feet id.0 ≡ o → IsSomeAnd o (λ foot. set ≡ side foot) → in_ranges set p ≡ places d p
    of_some None is says = absurd says
    of_some (Some foot) is says = ap (λ (rs : List Range). in_ranges rs p) says ∙ have foot (are.each id d foot found is) p

-- the first of two domains writes what the second reaches
written_reached : (domains : List Domain) (feet : List Foot) (one other : NodeId) (d e : Node) (w r : List Range)
    → AreFeet domains feet → node_of domains one ≡ Some d → node_of domains other ≡ Some e
    → IsSomeAnd (slice_get feet one.0) (λ foot. w ≡ foot.writes) → IsSomeAnd (slice_get feet other.0) (λ foot. r ≡ foot.reach)
    → (p : Place) → in_both w r p ≡ (node_writes d p && node_reach e p)
written_reached domains feet one other d e w r are here there written reached p =
    ap (λ (b : Bool). b && in_ranges r p)
    (side_places domains feet one d w (λ foot. foot.writes) node_writes (λ foot is. is.writes) are here written p)
    ∙ ap (λ (b : Bool). node_writes d p && b)
    (side_places domains feet other e r (λ foot. foot.reach) node_reach (λ foot is. is.reach) are there reached p)

-- the least place that the first of two domains writes and the second reaches
pub least_reached : (domains : List Domain) (feet : List Foot) (one other : NodeId) (d e : Node) (w r : List Range) (answer : Option Place)
    → AreFeet domains feet → node_of domains one ≡ Some d → node_of domains other ≡ Some e
    → IsSomeAnd (slice_get feet one.0) (λ foot. w ≡ foot.writes) → IsSomeAnd (slice_get feet other.0) (λ foot. r ≡ foot.reach)
    → IsLeast (in_both w r) answer → IsLeast (λ p. node_writes d p && node_reach e p) answer
least_reached domains feet one other d e w r answer are here there written reached least =
    IsLeast-of (in_both w r) (λ p. node_writes d p && node_reach e p) answer
    (written_reached domains feet one other d e w r are here there written reached) least

-- the least place at which two domains clash, by the least of both directions
pub least_clash : (d e : Node) (first second answer : Option Place)
    → ((s t : PlaceSet) → IsLeast s first → IsLeast t second → IsLeast (λ p. s p || t p) answer)
    → IsLeast (λ p. node_writes d p && node_reach e p) first → IsLeast (λ p. node_writes e p && node_reach d p) second
    → IsLeast (clash d e) answer
least_clash d e first second answer both into back =
    both (λ p. node_writes d p && node_reach e p) (λ p. node_writes e p && node_reach d p) into back

-- ---- whether siblings are apart, and the first that are not

apart_from_first : (one : Node) (ms : Members) → IsApartFrom one ms → FirstOf OverlapOf (pairs_with one ms) None
apart_from_first one no_more apart = refl
apart_from_first one (member other rest) apart = (apart.0, apart_from_first one rest apart.1)

pub members_apart_first : (ms : Members) → MembersApart ms → FirstOf OverlapOf (pairs_among ms) None
members_apart_first no_more apart = refl
members_apart_first (member one rest) apart =
    first_none OverlapOf (pairs_with one rest) (pairs_among rest) None (apart_from_first one rest apart.0) (members_apart_first rest apart.1)

groups_apart_first : (b : Body) → GroupsApart b → FirstOf OverlapOf (sibling_pairs b) None
groups_apart_first stop apart = refl
groups_apart_first (run op rest) apart = groups_apart_first rest apart
groups_apart_first (group ms rest) apart =
    first_none OverlapOf (pairs_among ms) (sibling_pairs rest) None (members_apart_first ms apart.0) (groups_apart_first rest apart.1)

first_apart_from : (one : Node) (ms : Members) → FirstOf OverlapOf (pairs_with one ms) None → IsApartFrom one ms
first_apart_from one no_more none = tt
first_apart_from one (member other rest) none = (none.0, first_apart_from one rest none.1)

first_members_apart : (ms : Members) → FirstOf OverlapOf (pairs_among ms) None → MembersApart ms
first_members_apart no_more none = tt
first_members_apart (member one rest) none =
    let parts = none_before OverlapOf (pairs_with one rest) (pairs_among rest) none in
    (first_apart_from one rest parts.0, first_members_apart rest parts.1)

first_groups_apart : (b : Body) → FirstOf OverlapOf (sibling_pairs b) None → GroupsApart b
first_groups_apart stop none = tt
first_groups_apart (run op rest) none = first_groups_apart rest none
first_groups_apart (group ms rest) none =
    let parts = none_before OverlapOf (pairs_among ms) (sibling_pairs rest) none in
    (first_members_apart ms parts.0, first_groups_apart rest parts.1)

-- a refused pair clashes
clashes : (one other : Node) (r : Refusal) → OverlapOf (one, other) (Some r) → (p : Place) × (clash one other p ≡ true)
clashes one other (Overlap a b place) says = (place, says.2.0)
clashes one other _ says = absurd says

not_both : (r : Refusal) (pair : Node × Node) → OverlapOf pair None → OverlapOf pair (Some r) → ⊥
not_both r (one, other) apart says =
    let found = clashes one other r says in
    let place = found.1 in
    absurd (let never = apart found.0 in cc)

-- ---- whole programs

abbrev pub OfDomain : Node → Option Refusal → Type 0
OfDomain d answer = FirstOf OverlapOf (sibling_pairs (body_of d)) answer

each_none : (ds : List Node) → FirstOf OfDomain ds None → (k : ℕ) (d : Node) → slice_get ds k ≡ Some d → GroupsApart (body_of d)
each_none [] none k d is = absurd (cc)
each_none (e ∷ ds) none zero d is =
    let same : e ≡ d = cc in
    subst (λ (x : Node). GroupsApart (body_of x)) same (first_groups_apart (body_of e) none.0)
each_none (e ∷ ds) none (suc k) d is = each_none ds none.1 k d is

none_each : (ds : List Node) → ((k : ℕ) (d : Node) → slice_get ds k ≡ Some d → GroupsApart (body_of d)) → FirstOf OfDomain ds None
none_each [] each = refl
none_each (d ∷ ds) each = (groups_apart_first (body_of d) (each 0 d refl), none_each ds (λ k e is. each (suc k) e is))

pub disjoint_where_none : (tree : TreeModel) → IsTree tree → DisjointByDomains → FirstOverlap tree.domains None → IsDisjoint (root_of tree.domains)
disjoint_where_none tree is law none = (law tree is).0 (λ id d found. each_none (nodes_from 0 tree.domains) none id.0 d found)

pub not_disjoint_where_some : (tree : TreeModel) → IsTree tree → DisjointByDomains → (r : Refusal) → FirstOverlap tree.domains (Some r)
    → IsDisjoint (root_of tree.domains) → ⊥
not_disjoint_where_some tree is law r some disjoint =
    let each : OfEach tree (λ d. GroupsApart (body_of d)) = (law tree is).1 disjoint in
    let none : FirstOf OfDomain (nodes_from 0 tree.domains) None =
    none_each (nodes_from 0 tree.domains) (λ k d found. each (record { 0 = k }) d found) in
    one_answer OfDomain r
    (λ d apart says. one_answer OverlapOf r (not_both r) (sibling_pairs (body_of d)) apart says)
    (nodes_from 0 tree.domains) none some

-- ---- a step of a loop

-- a number where a list has none
abbrev no_id : NodeId
no_id = record { 0 = 0 }

of_pair : (one other : NodeId) (d e : Node) (answer : Option Refusal) → one.0 ≡ number_of d → other.0 ≡ number_of e → PairOf one other d e answer
    → OverlapOf (d, e) answer
of_pair one other d e None first second apart = apart
of_pair one other d e (Some (Overlap a b place)) first second says =
    (ap (λ (id : NodeId). id.0) says.0 ∙ first, ap (λ (id : NodeId). id.0) says.1 ∙ second, says.2)
of_pair one other d e (Some _) first second never = absurd never

-- one pair more was asked
pub pair_passed : (domains : List Domain) (feet : List Foot) (one : NodeId) (others : List NodeId) (i : ℕ) (d : Node) (whole : List (Node × Node))
    (answer : Option Refusal) → AreFeet domains feet → one.0 < length feet → All (λ (id : NodeId). id.0 < length feet) others → i < length others
    → node_of domains one ≡ Some d
    → ((e : Node) → node_of domains (get_or others i no_id) ≡ Some e → PairOf one (get_or others i no_id) d e answer)
    → Leads OverlapOf (pairs_with d (members_by (node_of domains) (drop i others))) whole
    → Passed OverlapOf (pairs_with d (members_by (node_of domains) (drop (i + 1) others))) whole answer
pair_passed domains feet one others i d whole answer are here all more is says leads =
    let size = are.size in
    let other : NodeId = get_or others i no_id in
    let there : other.0 < length feet = all i no_id more in
    let found = found_node domains other (omega (arith, size, there)) in
    let first : one.0 ≡ number_of d = number_found domains one d is (omega (arith, size, here)) in
    let part : FirstOf OverlapOf ((d, found.0) ∷ []) answer =
    one_alone OverlapOf (d, found.0) answer (of_pair one other d found.0 answer first found.2 (says found.0 found.1)) in
    passed OverlapOf (pairs_with d (members_by (node_of domains) (drop i others))) ((d, found.0) ∷ [])
    (pairs_with d (members_by (node_of domains) (drop (i + 1) others))) whole answer
    (pairs_with-left (node_of domains) d (drop i others) other (drop (i + 1) others) found.0 (drop_more others i no_id more) found.1) part leads

-- one member more was compared with those after it
pub member_passed : (domains : List Domain) (feet : List Foot) (members : List NodeId) (i : ℕ) (seen : List NodeId) (whole : List (Node × Node))
    (answer : Option Refusal) → AreFeet domains feet → All (λ (id : NodeId). id.0 < length feet) members → i < length members → seen ≡ drop (i + 1) members
    → ((d : Node) → AreFeet domains feet → node_of domains (get_or members i no_id) ≡ Some d
    → FirstOf OverlapOf (pairs_with d (members_by (node_of domains) seen)) answer)
    → Leads OverlapOf (pairs_among (members_by (node_of domains) (drop i members))) whole
    → Passed OverlapOf (pairs_among (members_by (node_of domains) (drop (i + 1) members))) whole answer
member_passed domains feet members i seen whole answer are all more same says leads =
    let size = are.size in
    let one : NodeId = get_or members i no_id in
    let here : one.0 < length feet = all i no_id more in
    let found = found_node domains one (omega (arith, size, here)) in
    passed OverlapOf (pairs_among (members_by (node_of domains) (drop i members))) (pairs_with found.0 (members_by (node_of domains) seen))
    (pairs_among (members_by (node_of domains) (drop (i + 1) members))) whole answer
    (pairs_among-left (node_of domains) (drop i members) one (drop (i + 1) members) seen found.0 (drop_more members i no_id more) same found.1)
    (says found.0 are found.1) leads

-- one item more was asked
pub item_passed : (find : NodeId → Option Node) (items : List Item) (i : ℕ) (item : Item) (whole : List (Node × Node)) (answer : Option Refusal)
    → i < length items → item ≡ get_or items i item → FirstOf OverlapOf (item_pairs find item) answer
    → Leads OverlapOf (sibling_pairs (body_by find (drop i items))) whole
    → Passed OverlapOf (sibling_pairs (body_by find (drop (i + 1) items))) whole answer
item_passed find items i item whole answer more is says leads =
    passed OverlapOf (sibling_pairs (body_by find (drop i items))) (item_pairs find item) (sibling_pairs (body_by find (drop (i + 1) items))) whole answer
    (sibling_pairs-left find (drop i items) item (drop (i + 1) items) (drop-read items i item more is)) says leads

-- what a program's domain says of itself, by the items seen
says_of : (tree : TreeModel) → IsTree tree → (id : NodeId) (domain : Domain) (items : List Item) (answer : Option Refusal)
    → slice_get tree.domains id.0 ≡ Some domain → items ≡ domain.items
    → FirstOf OverlapOf (sibling_pairs (body_by (node_of tree.domains) items)) answer
    → (d : Node) × (node_of tree.domains id ≡ Some d) × OfDomain d answer
says_of tree is id domain items answer there same says = (
  node id domain (body_by (node_of tree.domains) domain.items),
  nested_view_follows tree is id domain there,
  subst (λ (l : List Item). FirstOf OverlapOf (sibling_pairs (body_by (node_of tree.domains) l)) answer) same says,
)

-- one domain more was asked
pub domain_passed : (tree : TreeModel) → IsTree tree → (id : NodeId) (domain : Domain) (items : List Item) (answer : Option Refusal)
    → slice_get tree.domains id.0 ≡ Some domain → items ≡ domain.items
    → FirstOf OverlapOf (sibling_pairs (body_by (node_of tree.domains) items)) answer
    → Leads OfDomain (drop id.0 (nodes_from 0 tree.domains)) (nodes_from 0 tree.domains)
    → Passed OfDomain (drop (id.0 + 1) (nodes_from 0 tree.domains)) (nodes_from 0 tree.domains) answer
domain_passed tree is id domain items answer there same says leads =
    let nodes = nodes_from 0 tree.domains in
    let one = says_of tree is id domain items answer there same says in
    passed OfDomain (drop id.0 nodes) (one.0 ∷ []) (drop (id.0 + 1) nodes) nodes answer (drop-found nodes id.0 one.0 one.1)
    (one_alone OfDomain one.0 answer one.2) leads

-- no domain is left
pub none_left : (domains : List Domain) (count : ℕ) → length domains ≤ count
    → Leads OfDomain (drop count (nodes_from 0 domains)) (nodes_from 0 domains) → FirstOverlap domains None
none_left domains count past leads =
    let nodes = nodes_from 0 domains in
    let size : length nodes ≡ length domains = length-nodes_from 0 domains in
    leads None (subst (λ (ds : List Node). FirstOf OfDomain ds None) (sym (drop_all count nodes (omega arith))) refl)
