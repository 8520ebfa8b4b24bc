-- The members of a group of a plan's domain: each is a child, reaches places of the domain's entries alone, and has its slice within
-- the domain's.
use Rattle.std.proofs.Common.{◌≡◌, ℕ, zero, suc, ◌+◌, ◌<◌, ◌≤◌, List, [], ◌∷◌, ◌++◌, Option, Some, All, length, slice_get, refl, ap, subst, arith}
use Rattle.std.proofs.lemmas.List.Elements.{All-nil, All-cons}
use Rattle.std.proofs.lemmas.Option.{slice_get_within}
use Rattle.std.specs.Option.{option_map_or}
use Rattle.cd_base.proofs.ListLemmas.{Each, some_of}
use Rattle.cd_base.specs.Words.{PlaceSet}
use Rattle.cd_tree.specs.declared.domain.NodeId.{NodeId}
use Rattle.cd_tree.specs.declared.domain.Entry.{Entry}
use Rattle.cd_tree.specs.declared.domain.Item.{Item}
use Rattle.cd_tree.specs.declared.domain.Item.TheVariants.{Run, Group}
use Rattle.cd_tree.specs.declared.domain.Domain.{Domain}
use Rattle.cd_tree.specs.declared.operation.Op.{Op}
use Rattle.cd_tree.specs.Domains.{Node, node_of, members_by, body_by, put_first}
use Rattle.cd_tree.specs.Laws.{NestedViewFollows}
use Rattle.cd_tree.specs.Meaning.{in_entries, node_reach, IsCovered, CoversBody, CoversMembers, GroupsApart, MembersApart, LieIn}
use Rattle.cd_tree.specs.Slices.{node_size, slice_end, children_in, FillSlice}
use Rattle.cd_tree.specs.TreeModel.{FitsItems, NamesChildren}
use Rattle.cd_tree.proofs.View.{domain_fits}
use Rattle.cd_foot.specs.Feet.{IsFoot}
use Rattle.cd_cover.specs.OuterLaws.{IsChild}
use Rattle.cd_cover.specs.Plans.{PlanModel, IsPlan}
use Rattle.cd_core.specs.Advancing.{size_of}
use Rattle.cd_core.specs.Asks.{foot_of}
use Rattle.cd_core.specs.LawsBelow.{MoreLaws}
use Rattle.cd_core.specs.StateModel.{StateModel}
use Rattle.cd_core.specs.Trying.{IsBelow}
use Rattle.cd_core.proofs.Grounds.{view_in}
use Rattle.cd_core.proofs.Viewed.{foot_is}

-- ---- a property of each, and of the items of a domain

pub all_of : {A : Type 0} (Q : A → Type 0) (xs : List A) → Each Q xs → All Q xs
all_of {A} Q [] h = All-nil Q
all_of {A} Q (x ∷ xs) h = All-cons Q x xs h.0 (all_of Q xs h.1)

each_parts : {A : Type 0} (Q : A → Type 0) (xs ys : List A) → Each Q (xs ++ ys) → Each Q xs × Each Q ys
each_parts {A} Q [] ys h = (tt, h)
each_parts {A} Q (x ∷ xs) ys h = let rest : Each Q xs × Each Q ys = each_parts Q xs ys h.1 in ((h.0, rest.0), rest.1)

-- what holds of items and, of a group, of what it names, holds of what a group among them names
pub at_group : (P : List Item → Type 0) (Q : List NodeId → Type 0) → ((op : Op) (items : List Item) → P (Run op ∷ items) → P items)
    → ((named : List NodeId) (items : List Item) → P (Group named ∷ items) → Q named × P items)
    → (items : List Item) (k : ℕ) (ids : List NodeId) → slice_get items k ≡ Some (Group ids) → P items → Q ids
at_group P Q over_run over_group [] k ids e h = absurd (cc)
at_group P Q over_run over_group (Run op ∷ items) zero ids e h = absurd (cc)
at_group P Q over_run over_group (Run op ∷ items) (suc k) ids e h = at_group P Q over_run over_group items k ids e (over_run op items h)
at_group P Q over_run over_group (Group named ∷ items) zero ids e h =
    let same : named ≡ ids = cc in
    subst Q same (over_group named items h).0
at_group P Q over_run over_group (Group named ∷ items) (suc k) ids e h =
    at_group P Q over_run over_group items k ids e (over_group named items h).1

pub named_at : (domains : List Domain) (at : ℕ) (items : List Item) (k : ℕ) (ids : List NodeId) → slice_get items k ≡ Some (Group ids)
    → FitsItems domains at items → NamesChildren domains at ids
named_at domains at items k ids e fits =
    at_group (FitsItems domains at) (NamesChildren domains at) (λ op rest h. h.2) (λ named rest h. (h.2, h.3)) items k ids e fits

pub covered_at : (entries : PlaceSet) (find : NodeId → Option Node) (items : List Item) (k : ℕ) (ids : List NodeId)
    → slice_get items k ≡ Some (Group ids) → CoversBody entries (body_by find items) → CoversMembers entries (members_by find ids)
covered_at entries find items k ids e covers =
    at_group (λ (rest : List Item). CoversBody entries (body_by find rest)) (λ (named : List NodeId). CoversMembers entries (members_by find named))
    (λ op rest h. h.1) (λ named rest h. (h.0, h.1)) items k ids e covers

pub apart_at : (find : NodeId → Option Node) (items : List Item) (k : ℕ) (ids : List NodeId) → slice_get items k ≡ Some (Group ids)
    → GroupsApart (body_by find items) → MembersApart (members_by find ids)
apart_at find items k ids e apart =
    at_group (λ (rest : List Item). GroupsApart (body_by find rest)) (λ (named : List NodeId). MembersApart (members_by find named))
    (λ op rest h. h) (λ named rest h. (h.0, h.1)) items k ids e apart

each_at : (Q : NodeId → Type 0) (items : List Item) (k : ℕ) (ids : List NodeId) → slice_get items k ≡ Some (Group ids)
    → Each Q (children_in items) → Each Q ids
each_at Q items k ids e h =
    at_group (λ (rest : List Item). Each Q (children_in rest)) (Each Q) (λ op rest x. x) (λ named rest x. each_parts Q named (children_in rest) x)
    items k ids e h

-- ---- the members

pub record MemberOf (plan : PlanModel) (parent : NodeId) (entries : List Entry) (id : NodeId) : Type 0 where
  pub own : Domain
  pub listed : slice_get plan.tree.domains id.0 ≡ Some own
  pub child : IsChild plan.tree.domains parent id
  pub later : parent.0 < id.0
  pub is : node_of plan.tree.domains id ≡ Some (view_in plan.tree id own)
  pub foot : IsFoot (view_in plan.tree id own) (foot_of plan id)
  pub within : LieIn (node_reach (view_in plan.tree id own)) (in_entries entries)

pub are_members : NestedViewFollows → (plan : PlanModel) (parent : NodeId) (entries : List Entry) (ids : List NodeId) → IsPlan plan
    → NamesChildren plan.tree.domains parent.0 ids → CoversMembers (in_entries entries) (members_by (node_of plan.tree.domains) ids)
    → Each (MemberOf plan parent entries) ids
are_members follows plan parent entries [] is_plan named covers = tt
are_members follows plan parent entries (id ∷ ids) is_plan named covers =
    let found : (own : Domain) × (slice_get plan.tree.domains id.0 ≡ Some own) × (own.parent ≡ Some parent) =
    some_of (slice_get plan.tree.domains id.0) (λ (d : Domain). d.parent ≡ Some parent) named.1 in
    let view : Node = view_in plan.tree id found.0 in
    let is : node_of plan.tree.domains id ≡ Some view = follows plan.tree is_plan.program id found.0 found.1 in
    let C : Option Node → Type 0 = λ o. CoversMembers (in_entries entries) (put_first o (members_by (node_of plan.tree.domains) ids)) in
    let parts : LieIn (node_reach view) (in_entries entries) × IsCovered view × CoversMembers (in_entries entries) (members_by (node_of plan.tree.domains) ids) =
    subst C is covers in (
      record {
        own = found.0;
        listed = found.1;
        child = named.1;
        later = named.0;
        is = is;
        foot = foot_is plan id view is_plan is;
        within = parts.0;
      },
      are_members follows plan parent entries ids is_plan named.2 parts.2,
    )

-- the members of the group at a point of a listed domain
pub group_members : MoreLaws → (plan : PlanModel) (id : NodeId) (domain : Domain) (point : ℕ) (ids : List NodeId) → IsPlan plan
    → slice_get plan.tree.domains id.0 ≡ Some domain → slice_get domain.items point ≡ Some (Group ids) → Each (MemberOf plan id domain.entries) ids
group_members l plan id domain point ids is_plan listed there =
    let d : Node = view_in plan.tree id domain in
    let is : node_of plan.tree.domains id ≡ Some d = l.follows plan.tree is_plan.program id domain listed in
    let covers : IsCovered d = l.covered plan.tree is_plan.program is_plan.covered id d is in
    are_members l.follows plan id domain.entries ids is_plan
    (named_at plan.tree.domains id.0 domain.items point ids there (domain_fits plan.tree is_plan.program id domain listed).items)
    (covered_at (in_entries domain.entries) (node_of plan.tree.domains) domain.items point ids there covers)

-- ---- their slices

-- slices that follow each other from a number to an end begin there and end by then
abbrev EndsBy : List Domain → ℕ → NodeId → Type 0
EndsBy domains end id = slice_end domains id ≤ end

fills : (domains : List Domain) (at : ℕ) (ids : List NodeId) (end : ℕ) → FillSlice domains at ids end
    → (at ≤ end) × Each (EndsBy domains end) ids
fills domains at [] end e = (omega (arith, e), tt)
fills domains at (id ∷ ids) end (here, above, rest) =
    let next : (slice_end domains id ≤ end) × Each (EndsBy domains end) ids = fills domains (slice_end domains id) ids end rest in
    let first : at ≤ end = omega (arith, above, next.0) in
    (first, (next.0, next.1))

one_below : (plan : PlanModel) (s : StateModel) (entries : List Entry) (id : NodeId) (end : ℕ) → MemberOf plan s.node entries id
    → EndsBy plan.tree.domains end id → end ≡ s.node.0 + length s.counts → IsBelow plan s id
one_below plan s entries id end one ends whole =
    let size : slice_end plan.tree.domains id ≡ id.0 + size_of plan id = refl in
    record {
      there = slice_get_within plan.tree.domains id.0 one.own one.listed;
      below = omega (arith, one.later);
      counts = omega (arith, one.later, ends, whole, size);
    }

each_below : (plan : PlanModel) (s : StateModel) (entries : List Entry) (ids : List NodeId) (end : ℕ) → Each (MemberOf plan s.node entries) ids
    → Each (EndsBy plan.tree.domains end) ids → end ≡ s.node.0 + length s.counts → Each (IsBelow plan s) ids
each_below plan s entries [] end all ends whole = tt
each_below plan s entries (id ∷ ids) end all ends whole =
    (one_below plan s entries id end all.0 ends.0 whole, each_below plan s entries ids end all.1 ends.1 whole)

-- the members of a group stand below the domain, with their counts among its own
pub are_below : (plan : PlanModel) (s : StateModel) (domain : Domain) (d : Node) (point : ℕ) (ids : List NodeId)
    → FillSlice plan.tree.domains (suc s.node.0) (children_in domain.items) (slice_end plan.tree.domains s.node)
    → node_of plan.tree.domains s.node ≡ Some d → length s.counts ≡ node_size d → slice_get domain.items point ≡ Some (Group ids)
    → Each (MemberOf plan s.node domain.entries) ids → Each (IsBelow plan s) ids
are_below plan s domain d point ids fill is counts group all =
    let end : ℕ = slice_end plan.tree.domains s.node in
    let size : option_map_or node_size (node_of plan.tree.domains s.node) 0 ≡ node_size d = ap (λ (o : Option Node). option_map_or node_size o 0) is in
    let open_end : end ≡ s.node.0 + option_map_or node_size (node_of plan.tree.domains s.node) 0 = refl in
    let whole : end ≡ s.node.0 + length s.counts = omega (arith, size, counts, open_end) in
    each_below plan s domain.entries ids end all
    (each_at (EndsBy plan.tree.domains end) domain.items point ids group
    (fills plan.tree.domains (suc s.node.0) (children_in domain.items) end fill).1)
    whole
