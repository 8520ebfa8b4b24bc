-- The laws: what holds of the definitions for every program and every script. Each is a contract of `laws`.
use Rattle.std.specs.Prelude.{ℕ, ◌+◌, ◌<◌, ◌≤◌, List, [], ◌∷◌, ◌++◌, length, ◌≡◌, ◌⊎◌, ◌↔◌, All, IsTrue, bit_and, Some, slice_get, true, false, IsSome}
use Rattle.std.specs.Option.{option_map_or}
use Rattle.cd_base.specs.declared.place.Place.{Place}
use Rattle.cd_base.specs.Words.{Words}
use Rattle.cd_tree.specs.Meaning.{in_entries, node_reach, node_meaning, IsCovered, uncovered, GroupsApart, IsDisjoint, node_need}
use Rattle.cd_tree.specs.Domains.{domain_of, body_of, Node, node, body_by, node_of, root_of}
use Rattle.cd_tree.specs.KindSets.{no_kinds, has_kind}
use Rattle.cd_tree.specs.TreeModel.{TreeModel, IsTree}
use Rattle.cd_tree.specs.Paths.{path_text_of}
use Rattle.cd_tree.specs.Reading.{Case, Counts, Blame, NodeEnd, Done, Escalated, read_node}
use Rattle.cd_tree.specs.Record.{reading}
use Rattle.cd_tree.specs.Scripts.{IsDetectable, IsAccepted, declared_for, path_of}
use Rattle.cd_tree.specs.declared.document.Fault.{Fault}
use Rattle.cd_tree.specs.declared.domain.Domain.{Domain}
use Rattle.cd_tree.specs.declared.domain.NodeId.{NodeId}

-- no more tries are repeated than faults strike
abbrev pub RepeatsAreAtMostStrikes : Type 0
RepeatsAreAtMostStrikes =
    (w : Case) (d : Node) (counts : Counts) → (read_node w d counts).past.repeats ≤ (read_node w d counts).past.strikes

-- each entry of a script strikes at most once: no more faults strike than the script has entries
abbrev pub StrikesAreAtMostEntries : Type 0
StrikesAreAtMostEntries = (w : Case) (d : Node) (counts : Counts) → (read_node w d counts).past.strikes ≤ length w.faults

-- no more tries of a whole program are repeated than its script has entries
abbrev pub RepeatsAreAtMostEntries : Type 0
RepeatsAreAtMostEntries = (tree : TreeModel) (faults : List Fault) → (reading tree faults).past.repeats ≤ length faults

-- no domain of a program begins more often than once and once more for each entry of the script
abbrev pub CountsAreAtMostOneMoreThanEntries : Type 0
CountsAreAtMostOneMoreThanEntries =
    (tree : TreeModel) (faults : List Fault) (n : ℕ) → IsTree tree → (reading tree faults).counts n ≤ 1 + length faults

-- the nested view of each domain of a program has the body that its own items describe by the nested views
abbrev pub NestedViewFollows : Type 0
NestedViewFollows =
    (tree : TreeModel) → IsTree tree → (id : NodeId) (domain : Domain) → slice_get tree.domains id.0 ≡ Some domain
    → node_of tree.domains id ≡ Some (node id domain (body_by (node_of tree.domains) domain.items))

-- no kind that a domain leaks is a halting kind
abbrev pub NoLeakHalts : Type 0
NoLeakHalts =
    (w : Case) (d : Node) (counts : Counts) (leak : ℕ) → (read_node w d counts).answer ≡ Done leak
    → bit_and leak w.halts ≡ no_kinds

-- completed without a leak, or escalated with nothing left to be declared
abbrev pub EndsClean : NodeEnd → Type 0
EndsClean end = (end ≡ Done no_kinds) ⊎ ((cause : Blame) × (end ≡ Escalated cause no_kinds))

-- where each fault's kind is declared by its domain or by one above it, a root leaks nothing and leaves nothing over
abbrev pub FoundAtRoots : Type 0
FoundAtRoots =
    (w : Case) (d : Node) (counts : Counts) → IsDetectable w.faults no_kinds d → EndsClean (read_node w d counts).answer

-- a program under a script that is accepted for it leaks nothing and leaves nothing over
abbrev pub FoundInPrograms : Type 0
FoundInPrograms = (tree : TreeModel) (faults : List Fault) → IsAccepted tree faults → EndsClean (reading tree faults).answer

-- two domains of a program with the same path are one
abbrev pub PathsDiffer : Type 0
PathsDiffer =
    (tree : TreeModel) → IsTree tree → (id other : NodeId) (one two : Domain)
    → slice_get tree.domains id.0 ≡ Some one → slice_get tree.domains other.0 ≡ Some two
    → path_text_of tree.domains id ≡ path_text_of tree.domains other → id ≡ other

-- a covered domain reaches places of its entries alone
abbrev pub CoveredReach : Type 0
CoveredReach = (d : Node) (p : Place) → IsCovered d → node_reach d p ≡ true → in_entries (domain_of d).entries p ≡ true

-- a place that has a word has one after a program in which nothing fails
abbrev pub WordsStay : Type 0
WordsStay = (d : Node) (w : Words) (p : Place) → IsSome (w p) → IsSome (node_meaning d w p)

-- a covered domain reaches the places of its entries and no others
abbrev pub ReachIsEntries : Type 0
ReachIsEntries = (d : Node) (p : Place) → IsCovered d → node_reach d p ≡ in_entries (domain_of d).entries p

-- a property of each domain of a program
abbrev pub OfEach : TreeModel → (Node → Type 0) → Type 0
OfEach tree P = (id : NodeId) (d : Node) → node_of tree.domains id ≡ Some d → P d

-- a program is disjoint where the groups of each of its domains are apart
abbrev pub DisjointByDomains : Type 0
DisjointByDomains =
    (tree : TreeModel) → IsTree tree → OfEach tree (λ d. GroupsApart (body_of d)) ↔ IsDisjoint (root_of tree.domains)

-- a program is covered where the entries of each of its domains leave nothing out that its body touches
abbrev pub CoveredByDomains : Type 0
CoveredByDomains =
    (tree : TreeModel) → IsTree tree
    → OfEach tree (λ d. (p : Place) → uncovered d p ≡ false) ↔ IsCovered (root_of tree.domains)

-- a script is detectable in a program where the kind of each fault of a domain is declared on that domain's path
abbrev pub DetectableByPaths : Type 0
DetectableByPaths =
    (tree : TreeModel) (faults : List Fault) → IsTree tree
    → All (λ (fault : Fault). fault.node.0 < length tree.domains → IsTrue (has_kind (declared_for tree.domains fault.node) fault.kind)) faults
    ↔ IsDetectable faults no_kinds (root_of tree.domains)

-- no domain of a program needs more blocks than the program
abbrev pub NeedIsRoots : Type 0
NeedIsRoots = (tree : TreeModel) → IsTree tree → OfEach tree (λ d. node_need d ≤ node_need (root_of tree.domains))

-- the parent of a domain of a program stands before it
abbrev pub ParentsComeFirst : Type 0
ParentsComeFirst =
    (tree : TreeModel) → IsTree tree → (id parent : NodeId) (domain : Domain) → slice_get tree.domains id.0 ≡ Some domain
    → domain.parent ≡ Some parent → parent.0 < id.0

-- the path of a domain is its parent's, and then the domain; the root's is the root alone
abbrev pub PathsGoDown : Type 0
PathsGoDown =
    (tree : TreeModel) → IsTree tree → (id : NodeId) (domain : Domain) → slice_get tree.domains id.0 ≡ Some domain
    → path_of tree.domains id ≡ option_map_or (path_of tree.domains) domain.parent [] ++ id ∷ []
