-- Fault scripts: which entries strike where, and what it means that a script is accepted for a program.
use Rattle.std.specs.Prelude.{◌≡◌, ℕ, ◌^◌, ◌<◌, ◌≤◌, Bool, true, ◌&&◌, ◌==◌, bit_or, IsTrue, List, [], ◌∷◌, ◌++◌, Option, None, Some, length, filter, slice_get, unwrap_or, All, IsSomeAnd}
use Rattle.std.specs.Option.{option_map_or}
use Rattle.cd_base.specs.Words.{Words, struck_word}
use Rattle.cd_tree.specs.declared.domain.NodeId.{NodeId}
use Rattle.cd_tree.specs.declared.domain.Domain.{Domain}
use Rattle.cd_tree.specs.declared.document.Fault.{Fault}
use Rattle.cd_tree.specs.KindSets.{only_kind, has_kind, no_kinds}
use Rattle.cd_tree.specs.Domains.{Node, Body, Members, node, stop, run, group, no_more, member, domain_of, node_of, root_of}
use Rattle.cd_tree.specs.TreeModel.{TreeModel}
use Rattle.cd_tree.specs.Meaning.{node_reach}

-- whether a fault strikes at this begin and point of this domain
abbrev pub strikes_at : NodeId → ℕ → ℕ → Fault → Bool
strikes_at id begin point fault = (fault.node.0 == id.0) && (fault.begin == begin) && (fault.item == point)

-- the faults that strike there, in script order
abbrev pub struck : List Fault → NodeId → ℕ → ℕ → List Fault
struck faults id begin point = filter (strikes_at id begin point) faults

-- their kinds
abbrev pub kinds_of : List Fault → ℕ
kinds_of [] = no_kinds
kinds_of (fault ∷ faults) = bit_or (only_kind fault.kind) (kinds_of faults)

-- the words after faults have struck in order
abbrev pub words_struck : List Fault → Words → Words
words_struck [] w = w
words_struck (fault ∷ faults) w = words_struck faults (struck_word w fault.place fault.mask)

abbrev mutual
  -- each fault's kind is declared by its domain or by one above it
  pub IsDetectable : List Fault → ℕ → Node → Type 0
  IsDetectable faults above (node id domain body) =
      All (λ (fault : Fault). fault.node.0 ≡ id.0 → IsTrue (has_kind (bit_or above domain.detects) fault.kind)) faults
      × DetectableBody faults (bit_or above domain.detects) body

  pub DetectableBody : List Fault → ℕ → Body → Type 0
  DetectableBody faults above stop = Unit {0}
  DetectableBody faults above (run op rest) = DetectableBody faults above rest
  DetectableBody faults above (group members rest) = DetectableMembers faults above members × DetectableBody faults above rest

  pub DetectableMembers : List Fault → ℕ → Members → Type 0
  DetectableMembers faults above no_more = Unit {0}
  DetectableMembers faults above (member first rest) = IsDetectable faults above first × DetectableMembers faults above rest

-- a fault that can strike: its domain is there and has that point, and its place is in the domain's reach
abbrev pub CanStrike : TreeModel → Fault → Type 0
CanStrike tree fault =
    IsSomeAnd (node_of tree.domains fault.node) (λ d.
    (fault.item ≤ length (domain_of d).items) × (node_reach d fault.place ≡ true))

-- a script that is accepted for a program: it has fewer than 2^32 entries, each can strike, and each can be found
pub record IsAccepted (tree : TreeModel) (faults : List Fault) : Type 0 where
  pub few : length faults < 2 ^ 32
  pub strikes : All (CanStrike tree) faults
  pub found : IsDetectable faults no_kinds (root_of tree.domains)

-- the path of a domain whose parent's path is among these, or the path of the root
abbrev pub path_under : List (List NodeId) → Option NodeId → List NodeId
path_under paths None = []
path_under paths (Some parent) = unwrap_or (slice_get paths parent.0) []

-- the paths of all domains, each its parent's path with its own number behind
abbrev pub paths_from : List (List NodeId) → List Domain → List (List NodeId)
paths_from paths [] = paths
paths_from paths (domain ∷ domains) =
    paths_from (paths ++ (path_under paths domain.parent ++ record { 0 = length paths } ∷ []) ∷ []) domains

-- a domain's ancestors from the root on, then the domain
abbrev pub path_of : List Domain → NodeId → List NodeId
path_of domains id = unwrap_or (slice_get (paths_from [] domains) id.0) []

-- the kinds that some domains, by their numbers, declare
abbrev pub declared_by : List Domain → List NodeId → ℕ
declared_by domains [] = no_kinds
declared_by domains (id ∷ ids) =
    bit_or (option_map_or (λ (domain : Domain). domain.detects) (slice_get domains id.0) no_kinds) (declared_by domains ids)

-- the kinds that a domain or one above it declares
abbrev pub declared_for : List Domain → NodeId → ℕ
declared_for domains id = declared_by domains (path_of domains id)
