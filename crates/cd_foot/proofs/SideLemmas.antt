-- What is gathered for a domain has its places.
use Rattle.std.proofs.Common.{◌≡◌, ℕ, ◌+◌, ◌<◌, Bool, false, ◌||◌, List, [], ◌∷◌, ◌++◌, length, map, Option, None, Some, slice_get, All, IsSomeAnd, refl, sym, ap, subst, ◌∙◌, arith}
use Rattle.std.specs.List.{flat_map}
use Rattle.std.specs.Option.{option_map_or}
use Rattle.std.proofs.lemmas.List.Elements.{All-nil, All-cons}
use Rattle.std.proofs.lemmas.Option.{slice_get_within, slice_get-get_or}
use Rattle.cd_base.specs.declared.place.Place.{Place}
use Rattle.cd_base.specs.declared.place.Range.{Range}
use Rattle.cd_base.specs.Words.{PlaceSet, in_range, in_ranges}
use Rattle.cd_base.proofs.BoolLemmas.{or-none}
use Rattle.cd_base.proofs.RangeLemmas.{in_ranges-append}
use Rattle.cd_tree.specs.declared.domain.NodeId.{NodeId}
use Rattle.cd_tree.specs.declared.domain.Entry.{Entry}
use Rattle.cd_tree.specs.declared.domain.Item.{Item}
use Rattle.cd_tree.specs.declared.domain.Item.TheVariants.{Run, Group}
use Rattle.cd_tree.specs.declared.domain.Domain.{Domain}
use Rattle.cd_tree.specs.declared.operation.Op.{Op}
use Rattle.cd_tree.specs.Operations.{op_writes}
use Rattle.cd_tree.specs.Meaning.{in_entries, body_reads, member_reads, body_writes, member_writes}
use Rattle.cd_tree.specs.Domains.{Node, Body, Members, node, stop, run, group, no_more, member, members_by, body_by, node_of}
use Rattle.cd_tree.specs.TreeModel.{TreeModel, IsTree, NamesChildren, FitsItems}
use Rattle.cd_tree.proofs.View.{domain_fits, nested_view_follows, members_by-found, members_here}
use Rattle.cd_foot.specs.declared.footprints.Foot.{Foot}
use Rattle.cd_foot.specs.declared.gathered.Side.{Side}
use Rattle.cd_foot.specs.declared.gathered.Side.TheVariants.{Reads, Writes}
use Rattle.cd_foot.specs.Feet.{IsFoot}
use Rattle.cd_foot.specs.Gathered.{op_side, foot_side, entry_side, side_at, item_side, gathered, IsItemOf, CanGather, node_side, IsSide, AreFeetFrom}

-- ---- what a program says of one of its domains

abbrev IsChild : ℕ → Option Domain → Type 0
IsChild at o = IsSomeAnd o (λ child. child.parent ≡ Some (record { 0 = at }))

child_in : (at : ℕ) (o : Option Domain) → IsChild at o → (child : Domain) × (o ≡ Some child)
child_in at None is = absurd is
child_in at (Some child) is = (child, refl)

gatherable : (domains : List Domain) (at : ℕ) (items : List Item) → FitsItems domains at items → All (IsItemOf (length domains)) items
gatherable domains at [] fits = All-nil (IsItemOf (length domains))
gatherable domains at (Run op ∷ items) (full, shape, fits) =
    All-cons (IsItemOf (length domains)) (Run op) items full (gatherable domains at items fits)
gatherable domains at (Group ids ∷ items) (some, few, named, fits) =
    All-cons (IsItemOf (length domains)) (Group ids) items (members_here domains at ids named) (gatherable domains at items fits)

pub gatherable_items : (tree : TreeModel) → IsTree tree → (id : NodeId) (domain : Domain) → slice_get tree.domains id.0 ≡ Some domain
    → (count : ℕ) → count ≡ length tree.domains → All (IsItemOf count) domain.items
gatherable_items tree is id domain there count same =
    let Q : ℕ → Type 0 = λ n. All (IsItemOf n) domain.items in
    subst Q (sym same) (gatherable tree.domains id.0 domain.items (domain_fits tree is id domain there).items)

-- the sets of each domain of a program can be gathered
pub can_gather : (tree : TreeModel) → IsTree tree → (id : NodeId) (domain : Domain) → slice_get tree.domains id.0 ≡ Some domain
    → (count : ℕ) → count ≡ length tree.domains → CanGather count domain
can_gather tree is id domain there count same = record {
  entries = (domain_fits tree is id domain there).ranges;
  items = gatherable_items tree is id domain there count same;
}

-- ---- a member is found, with its footprint

abbrev Member : List Domain → List Foot → NodeId → Type 0
Member domains feet id =
    (d : Node) × (foot : Foot) × (node_of domains id ≡ Some d) × (slice_get feet id.0 ≡ Some foot) × IsFoot d foot

no_foot : Foot
no_foot = record { reads = []; writes = []; reach = [] }

member_found : (tree : TreeModel) → IsTree tree → (at : ℕ) (feet : List Foot) → AreFeetFrom (at + 1) tree.domains feet
    → (id : NodeId) → at < id.0 → IsChild at (slice_get tree.domains id.0) → Member tree.domains feet id
member_found tree is at feet behind id above child =
    let one = child_in at (slice_get tree.domains id.0) child in
    let within : id.0 < length feet =
    (let here = slice_get_within tree.domains id.0 one.0 one.1 in let size = behind.size in omega (arith, here, size)) in
    let view = nested_view_follows tree is id one.0 one.1 in
    let foot = slice_get-get_or feet id.0 no_foot within in
    (_, _, view, foot, behind.each id _ _ (omega arith) view foot)

-- ---- places

in_ranges-map : (entries : List Entry) (p : Place) → in_ranges (map (λ entry. entry.range) entries) p ≡ in_entries entries p
in_ranges-map [] p = refl
in_ranges-map (entry ∷ entries) p = ap (λ (b : Bool). in_range entry.range p || b) (in_ranges-map entries p)

abbrev pub body_side : Side → Body → PlaceSet
body_side Reads b = body_reads b
body_side Writes b = body_writes b

abbrev pub member_side : Side → Members → PlaceSet
member_side Reads ms = member_reads ms
member_side Writes ms = member_writes ms

foot_places : (side : Side) (d : Node) (foot : Foot) (p : Place) → IsFoot d foot
    → in_ranges (foot_side side foot) p ≡ node_side side d p
foot_places Reads d foot p is = is.reads p
foot_places Writes d foot p is = is.writes p

pub member_side-member : (side : Side) (first : Node) (rest : Members) (p : Place)
    → member_side side (member first rest) p ≡ (node_side side first p || member_side side rest p)
member_side-member Reads first rest p = refl
member_side-member Writes first rest p = refl

pub body_side-run : (side : Side) (op : Op) (rest : Body) (p : Place)
    → body_side side (run op rest) p ≡ (in_ranges (op_side side op) p || body_side side rest p)
body_side-run Reads op rest p = refl
body_side-run Writes op rest p = ap (λ (b : Bool). b || body_writes rest p) (sym (or-none (in_range (op_writes op) p)))

pub body_side-group : (side : Side) (members : Members) (rest : Body) (p : Place)
    → body_side side (group members rest) p ≡ (member_side side members p || body_side side rest p)
body_side-group Reads members rest p = refl
body_side-group Writes members rest p = refl

pub none-of-members : (side : Side) (p : Place) → false ≡ member_side side no_more p
none-of-members Reads p = refl
none-of-members Writes p = refl

pub none-of-body : (side : Side) (p : Place) → false ≡ body_side side stop p
none-of-body Reads p = refl
none-of-body Writes p = refl

pub node_side-node : (side : Side) (id : NodeId) (domain : Domain) (body : Body) (p : Place)
    → node_side side (node id domain body) p ≡ (in_ranges (entry_side side domain.entries) p || body_side side body p)
node_side-node Reads id domain body p = ap (λ (b : Bool). b || body_reads body p) (sym (in_ranges-map domain.entries p))
node_side-node Writes id domain body p = refl

-- both parts of a set of two lists
both_parts : (rs ss : List Range) (p : Place) (a b : Bool) → in_ranges rs p ≡ a → in_ranges ss p ≡ b → in_ranges (rs ++ ss) p ≡ (a || b)
both_parts rs ss p a b e f = in_ranges-append rs ss p ∙ ap (λ (x : Bool). x || in_ranges ss p) e ∙ ap (λ (x : Bool). a || x) f

side_at-found : (side : Side) (feet : List Foot) (id : NodeId) (foot : Foot) → slice_get feet id.0 ≡ Some foot → side_at side feet id ≡ foot_side side foot
side_at-found side feet id foot found = ap (λ (o : Option Foot). option_map_or (foot_side side) o []) found

members_places : (side : Side) (tree : TreeModel) → IsTree tree → (at : ℕ) (feet : List Foot) → AreFeetFrom (at + 1) tree.domains feet
    → (ids : List NodeId) (p : Place) → NamesChildren tree.domains at ids
    → in_ranges (flat_map (side_at side feet) ids) p ≡ member_side side (members_by (node_of tree.domains) ids) p
members_places side tree is at feet behind [] p named = none-of-members side p
members_places side tree is at feet behind (id ∷ ids) p (above, child, named) =
    let found = member_found tree is at feet behind id above child in
    let find = node_of tree.domains in
    let here : in_ranges (side_at side feet id) p ≡ node_side side found.0 p =
    ap (λ (rs : List Range). in_ranges rs p) (side_at-found side feet id found.1 found.3) ∙ foot_places side found.0 found.1 p found.4 in
    both_parts (side_at side feet id) (flat_map (side_at side feet) ids) p _ _ here
    (members_places side tree is at feet behind ids p named)
    ∙ sym (member_side-member side found.0 (members_by find ids) p)
    ∙ ap (λ (ms : Members). member_side side ms p) (sym (members_by-found find id ids found.0 found.2))

items_places : (side : Side) (tree : TreeModel) → IsTree tree → (at : ℕ) (feet : List Foot) → AreFeetFrom (at + 1) tree.domains feet
    → (items : List Item) (p : Place) → FitsItems tree.domains at items
    → in_ranges (flat_map (item_side side feet) items) p ≡ body_side side (body_by (node_of tree.domains) items) p
items_places side tree is at feet behind [] p fits = none-of-body side p
items_places side tree is at feet behind (Run op ∷ items) p (full, shape, fits) =
    both_parts (op_side side op) (flat_map (item_side side feet) items) p _ _ refl (items_places side tree is at feet behind items p fits)
    ∙ sym (body_side-run side op (body_by (node_of tree.domains) items) p)
items_places side tree is at feet behind (Group ids ∷ items) p (some, few, named, fits) =
    both_parts (flat_map (side_at side feet) ids) (flat_map (item_side side feet) items) p _ _
    (members_places side tree is at feet behind ids p named) (items_places side tree is at feet behind items p fits)
    ∙ sym (body_side-group side (members_by (node_of tree.domains) ids) (body_by (node_of tree.domains) items) p)

-- ---- a domain

gathered_places : (side : Side) (tree : TreeModel) → IsTree tree → (feet : List Foot) (id : NodeId) (domain : Domain)
    → AreFeetFrom (id.0 + 1) tree.domains feet → slice_get tree.domains id.0 ≡ Some domain → (p : Place)
    → in_ranges (gathered side feet domain) p ≡ node_side side (node id domain (body_by (node_of tree.domains) domain.items)) p
gathered_places side tree is feet id domain behind there p =
    both_parts (entry_side side domain.entries) (flat_map (item_side side feet) domain.items) p _ _ refl
    (items_places side tree is id.0 feet behind domain.items p (domain_fits tree is id domain there).items)
    ∙ sym (node_side-node side id domain (body_by (node_of tree.domains) domain.items) p)

-- the set made of what was gathered
pub is_side : (side : Side) (tree : TreeModel) → IsTree tree → (feet : List Foot) (id : NodeId) (domain : Domain)
    → AreFeetFrom (id.0 + 1) tree.domains feet → slice_get tree.domains id.0 ≡ Some domain
    → (set : List Range) → ((p : Place) → in_ranges set p ≡ in_ranges (gathered side feet domain) p)
    → (d : Node) → node_of tree.domains id ≡ Some d → IsSide side d set
is_side side tree is feet id domain behind there set same d found =
    let view : node_of tree.domains id ≡ Some (node id domain (body_by (node_of tree.domains) domain.items)) = nested_view_follows tree is id domain there in
    let one : node id domain (body_by (node_of tree.domains) domain.items) ≡ d = cc in
    subst (λ (e : Node). IsSide side e set) one (record {
      places = λ p. same p ∙ gathered_places side tree is feet id domain behind there p;
    })
