-- When a domain begins again: the law that a sibling's failure begins nobody else.
use Rattle.std.specs.Prelude.{◌≡◌, ◌≢◌, ◌⊎◌, ℕ, ◌+◌, List, ◌∷◌, ◌++◌, Some, slice_get, IsSomeAnd, Contains}
use Rattle.cd_tree.specs.declared.domain.NodeId.{NodeId}
use Rattle.cd_tree.specs.declared.domain.Domain.{Domain}
use Rattle.cd_tree.specs.declared.document.Fault.{Fault}
use Rattle.cd_tree.specs.declared.event.Event.{Event}
use Rattle.cd_tree.specs.declared.event.Event.TheVariants.{Begin, Found, Complete, Escalate}
use Rattle.cd_tree.specs.KindSets.{no_kinds}
use Rattle.cd_tree.specs.TreeModel.{TreeModel, IsTree}
use Rattle.cd_tree.specs.Record.{record_of}

-- the domain with this number has this parent
abbrev pub HasParent : List Domain → NodeId → NodeId → Type 0
HasParent domains id parent = IsSomeAnd (slice_get domains id.0) (λ domain. domain.parent ≡ Some parent)

-- the parent of a domain begins among these events
abbrev pub ParentBegins : List Domain → NodeId → List Event → Type 0
ParentBegins domains id events =
    (parent : NodeId) × (number : ℕ) × HasParent domains id parent × Contains events (Begin parent number)

-- kinds are found in a try of a domain among these events
abbrev pub FindsKinds : NodeId → List Event → Type 0
FindsKinds id events = (kinds : ℕ) × (kinds ≢ no_kinds) × Contains events (Found id kinds)

-- a member of a domain escalates among these events
abbrev pub MemberEscalates : List Domain → NodeId → List Event → Type 0
MemberEscalates domains id events = (member : NodeId) × HasParent domains member id × Contains events (Escalate member)

-- a try of a domain fails among these events: kinds are found in it, or a member escalates
abbrev pub TryFails : List Domain → NodeId → List Event → Type 0
TryFails domains id events = FindsKinds id events ⊎ MemberEscalates domains id events

-- a domain neither completes nor escalates among these events
abbrev pub StaysOpen : NodeId → List Event → Type 0
StaysOpen id events = (Contains events (Complete id) → ⊥) × (Contains events (Escalate id) → ⊥)

-- the domain does not begin among these events
abbrev pub DoesNotBegin : NodeId → List Event → Type 0
DoesNotBegin id events = (number : ℕ) → Contains events (Begin id number) → ⊥

-- between two begins of a domain its parent begins, or its own try fails and it stays open
abbrev pub BeginsFollowFailures : Type 0
BeginsFollowFailures =
    (tree : TreeModel) (faults : List Fault) → IsTree tree → (id : NodeId) (first second : ℕ) (before between behind : List Event)
    → record_of tree faults ≡ before ++ Begin id first ∷ (between ++ Begin id second ∷ behind)
    → DoesNotBegin id between
    → ParentBegins tree.domains id between ⊎ (TryFails tree.domains id between × StaysOpen id between)

-- the next begin of a domain has the next number
abbrev pub BeginsNumberOn : Type 0
BeginsNumberOn =
    (tree : TreeModel) (faults : List Fault) (id : NodeId) (first second : ℕ) (before between behind : List Event)
    → record_of tree faults ≡ before ++ Begin id first ∷ (between ++ Begin id second ∷ behind)
    → DoesNotBegin id between
    → second ≡ first + 1
