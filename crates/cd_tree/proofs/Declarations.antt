-- A script is detectable in a program where each fault's kind is declared on its domain's path.
use Rattle.std.proofs.Common.{◌≡◌, ◌↔◌, ℕ, ◌<◌, List, [], ◌∷◌, Option, None, Some, IsSomeAnd, IsTrue, All, bit_or, length, slice_get, get_or, refl, ap, sym, subst, arith}
use Rattle.std.proofs.lemmas.Option.{slice_get_within, slice_get-get_or}
use Rattle.cd_tree.specs.declared.domain.NodeId.{NodeId}
use Rattle.cd_tree.specs.declared.domain.Item.{Item}
use Rattle.cd_tree.specs.declared.domain.Item.TheVariants.{Run, Group}
use Rattle.cd_tree.specs.declared.domain.Domain.{Domain}
use Rattle.cd_tree.specs.declared.document.Fault.{Fault}
use Rattle.cd_tree.specs.KindSets.{no_kinds, has_kind}
use Rattle.cd_tree.specs.Domains.{Node, Body, Members, node, stop, run, group, no_more, member, put_first, members_by, body_by, node_of, root_of, domain_of, Throughout, ThroughoutBody, ThroughoutMembers}
use Rattle.cd_tree.specs.TreeModel.{TreeModel, IsTree, NamesChildren, FitsItems}
use Rattle.cd_tree.specs.Scripts.{IsDetectable, DetectableBody, DetectableMembers, declared_for}
use Rattle.cd_tree.proofs.View.{domain_fits, nested_view_follows, held}
use Rattle.cd_tree.proofs.EachDomain.{Behind, behind_view, root_there, from_each, of_each}
use Rattle.cd_tree.proofs.DeclaredPaths.{declared_down}

abbrev id_of : Node → NodeId
id_of (node id domain body) = id

-- the kinds of one domain's faults are among these
abbrev Declares : List Fault → NodeId → ℕ → Type 0
Declares faults id kinds = All (λ (fault : Fault). fault.node.0 ≡ id.0 → IsTrue (has_kind kinds fault.kind)) faults

-- the kinds of a domain's faults are declared for it, where `declared` gives what is declared for each
abbrev DeclaredAt : List Fault → (NodeId → ℕ) → Node → Type 0
DeclaredAt faults declared (node id domain body) = Declares faults id (declared id)

-- what is declared for a member: what is declared above it, and its own
abbrev IsJoined : (NodeId → ℕ) → ℕ → Node → Type 0
IsJoined declared above (node id domain body) = declared id ≡ bit_or above domain.detects

abbrev MembersJoin : (NodeId → ℕ) → ℕ → Members → Type 0
MembersJoin declared above no_more = Unit {0}
MembersJoin declared above (member first rest) = IsJoined declared above first × MembersJoin declared above rest

abbrev BodyJoins : (NodeId → ℕ) → ℕ → Body → Type 0
BodyJoins declared above stop = Unit {0}
BodyJoins declared above (run op rest) = BodyJoins declared above rest
BodyJoins declared above (group members rest) = MembersJoin declared above members × BodyJoins declared above rest

abbrev Joins : (NodeId → ℕ) → Node → Type 0
Joins declared (node id domain body) = BodyJoins declared (declared id) body

both_agree : {A B C D : Type 0} → A ↔ C → B ↔ D → (A × B) ↔ (C × D)
both_agree first second = (λ (a, b). (first.0 a, second.0 b), λ (c, d). (first.1 c, second.1 d))

-- what is detectable from the root down is declared for each domain, and the other way round
mutual
  node_agrees : (faults : List Fault) (declared : NodeId → ℕ) (above : ℕ) (d : Node) → IsJoined declared above d
      → Throughout (Joins declared) d → IsDetectable faults above d ↔ Throughout (DeclaredAt faults declared) d
  node_agrees faults declared above (node id domain body) joined (joins, more) =
      subst (λ (kinds : ℕ). (Declares faults id kinds × DetectableBody faults kinds body)
      ↔ (Declares faults id (declared id) × ThroughoutBody (DeclaredAt faults declared) body)) joined
      (both_agree (λ here. here, λ here. here) (body_agrees faults declared (declared id) body joins more))

  body_agrees : (faults : List Fault) (declared : NodeId → ℕ) (above : ℕ) (body : Body) → BodyJoins declared above body
      → ThroughoutBody (Joins declared) body → DetectableBody faults above body ↔ ThroughoutBody (DeclaredAt faults declared) body
  body_agrees faults declared above stop joined joins = (λ none. tt, λ none. tt)
  body_agrees faults declared above (run op rest) joined joins = body_agrees faults declared above rest joined joins
  body_agrees faults declared above (group members rest) (joined, more) (joins, others) =
      both_agree (members_agree faults declared above members joined joins) (body_agrees faults declared above rest more others)

  members_agree : (faults : List Fault) (declared : NodeId → ℕ) (above : ℕ) (members : Members) → MembersJoin declared above members
      → ThroughoutMembers (Joins declared) members → DetectableMembers faults above members ↔ ThroughoutMembers (DeclaredAt faults declared) members
  members_agree faults declared above no_more joined joins = (λ none. tt, λ none. tt)
  members_agree faults declared above (member first rest) (joined, more) (joins, others) =
      both_agree (node_agrees faults declared above first joined joins) (members_agree faults declared above rest more others)

first_joins : (declared : NodeId → ℕ) (above : ℕ) (first : Option Node) (rest : Members)
    → ((d : Node) → first ≡ Some d → IsJoined declared above d) → MembersJoin declared above rest
    → MembersJoin declared above (put_first first rest)
first_joins declared above None rest joined more = more
first_joins declared above (Some d) rest joined more = (joined d refl, more)

-- a member of a domain: its path is the domain's, and then the member
child_joins : (tree : TreeModel) → IsTree tree → (at id : NodeId)
    → IsSomeAnd (slice_get tree.domains id.0) (λ child. child.parent ≡ Some at)
    → (d : Node) → node_of tree.domains id ≡ Some d → IsJoined (declared_for tree.domains) (declared_for tree.domains at) d
child_joins tree is at id child d found =
    let view : Behind tree.domains id d = behind_view tree is id d found in
    subst (IsJoined (declared_for tree.domains) (declared_for tree.domains at)) (sym view.view)
    (declared_down tree is id view.domain view.there (Some at)
    (held (λ child. child.parent ≡ Some at) (slice_get tree.domains id.0) view.domain view.there child))

members_join : (tree : TreeModel) → IsTree tree → (at : NodeId) (ids : List NodeId) → NamesChildren tree.domains at.0 ids
    → MembersJoin (declared_for tree.domains) (declared_for tree.domains at) (members_by (node_of tree.domains) ids)
members_join tree is at [] fits = tt
members_join tree is at (id ∷ ids) (above, child, fits) =
    first_joins (declared_for tree.domains) (declared_for tree.domains at) (node_of tree.domains id)
    (members_by (node_of tree.domains) ids) (child_joins tree is at id child) (members_join tree is at ids fits)

body_joins : (tree : TreeModel) → IsTree tree → (at : NodeId) (items : List Item) → FitsItems tree.domains at.0 items
    → BodyJoins (declared_for tree.domains) (declared_for tree.domains at) (body_by (node_of tree.domains) items)
body_joins tree is at [] fits = tt
body_joins tree is at (Run op ∷ items) (full, shape, fits) = body_joins tree is at items fits
body_joins tree is at (Group ids ∷ items) (some, few, named, fits) =
    (members_join tree is at ids named, body_joins tree is at items fits)

-- the members of each domain of a program join on
each_joins : (tree : TreeModel) → IsTree tree → (id : NodeId) (d : Node) → node_of tree.domains id ≡ Some d
    → Joins (declared_for tree.domains) d
each_joins tree is id d found =
    let view : Behind tree.domains id d = behind_view tree is id d found in
    let fits : FitsItems tree.domains id.0 view.domain.items = (domain_fits tree is id view.domain view.there).items in
    subst (Joins (declared_for tree.domains)) (sym view.view) (body_joins tree is id view.domain.items fits)

-- nothing is declared above the root
root_joins : (tree : TreeModel) → IsTree tree → IsJoined (declared_for tree.domains) no_kinds (root_of tree.domains)
root_joins tree is =
    let first : NodeId = record { 0 = 0 } in
    let view : Behind tree.domains first (root_of tree.domains) =
    behind_view tree is first (root_of tree.domains) (root_there tree.domains is.some) in
    subst (IsJoined (declared_for tree.domains) no_kinds) (sym view.view)
    (declared_down tree is first view.domain view.there None
    (held (λ domain. domain.parent ≡ None) (slice_get tree.domains 0) view.domain view.there is.root))

-- the kinds of the faults of domains that are there
abbrev AllDeclared : TreeModel → List Fault → Type 0
AllDeclared tree faults =
    All (λ (fault : Fault). fault.node.0 < length tree.domains → IsTrue (has_kind (declared_for tree.domains fault.node) fault.kind)) faults

same_domain : (declared : NodeId → ℕ) (id other : NodeId) → id.0 ≡ other.0 → declared id ≡ declared other
same_domain declared id other same = ap (λ (n : ℕ). declared (record { 0 = n })) same

at_each : (tree : TreeModel) → IsTree tree → (faults : List Fault) → AllDeclared tree faults
    → (id : NodeId) (d : Node) → node_of tree.domains id ≡ Some d → DeclaredAt faults (declared_for tree.domains) d
at_each tree is faults all id d found =
    let view : Behind tree.domains id d = behind_view tree is id d found in
    let within : id.0 < length tree.domains = slice_get_within tree.domains id.0 view.domain view.there in
    subst (DeclaredAt faults (declared_for tree.domains)) (sym view.view)
    (λ k fault below same.
    let f : Fault = get_or faults k fault in
    let there : f.node.0 < length tree.domains = omega arith in
    subst (λ (kinds : ℕ). IsTrue (has_kind kinds f.kind)) (same_domain (declared_for tree.domains) f.node id same)
    (all k fault below there))

from_paths : (tree : TreeModel) → IsTree tree → (faults : List Fault) → AllDeclared tree faults
    → IsDetectable faults no_kinds (root_of tree.domains)
from_paths tree is faults all =
    (node_agrees faults (declared_for tree.domains) no_kinds (root_of tree.domains) (root_joins tree is)
    (from_each tree is (Joins (declared_for tree.domains)) (each_joins tree is))).1
    (from_each tree is (DeclaredAt faults (declared_for tree.domains)) (at_each tree is faults all))

to_paths : (tree : TreeModel) → IsTree tree → (faults : List Fault) → IsDetectable faults no_kinds (root_of tree.domains)
    → AllDeclared tree faults
to_paths tree is faults detectable =
    let each : (id : NodeId) (d : Node) → node_of tree.domains id ≡ Some d → DeclaredAt faults (declared_for tree.domains) d =
    of_each tree is (DeclaredAt faults (declared_for tree.domains))
    ((node_agrees faults (declared_for tree.domains) no_kinds (root_of tree.domains) (root_joins tree is)
    (from_each tree is (Joins (declared_for tree.domains)) (each_joins tree is))).0 detectable) in
    λ k fault below within.
    let id : NodeId = (get_or faults k fault).node in
    let here : Domain = get_or tree.domains id.0 (domain_of (root_of tree.domains)) in
    let there : slice_get tree.domains id.0 ≡ Some here =
    slice_get-get_or tree.domains id.0 (domain_of (root_of tree.domains)) within in
    each id (node id here (body_by (node_of tree.domains) here.items)) (nested_view_follows tree is id here there)
    k fault below refl

pub detectable_by_paths : (tree : TreeModel) (faults : List Fault) → IsTree tree
    → AllDeclared tree faults ↔ IsDetectable faults no_kinds (root_of tree.domains)
detectable_by_paths tree faults is = (from_paths tree is faults, to_paths tree is faults)
