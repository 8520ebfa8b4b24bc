-- Which fault scripts are accepted for a program: fault by fault, its path, its point, its place, its kind.
use Rattle.std.specs.Prelude.{◌≡◌, ℕ, ◌<◌, ◌≤◌, Bool, true, false, List, [], ◌∷◌, length, Option, None, Some, slice_get, Result, Ok, Err}
use Rattle.std.specs.Option.{option_map_or}
use Rattle.cd_base.specs.declared.place.Place.{Place}
use Rattle.cd_tree.specs.declared.domain.NodeId.{NodeId}
use Rattle.cd_tree.specs.declared.domain.Domain.{Domain}
use Rattle.cd_tree.specs.declared.document.RawFault.{RawFault}
use Rattle.cd_tree.specs.declared.document.Fault.{Fault}
use Rattle.cd_tree.specs.declared.refusal.Refusal.{Refusal}
use Rattle.cd_tree.specs.declared.refusal.Refusal.TheVariants.{UnknownPath, NoSuchItem, OutsideReach, Undetected}
use Rattle.cd_tree.specs.declared.refusal.Refuse.{Refuse}
use Rattle.cd_tree.specs.declared.refusal.Refuse.TheVariants.{Refused, NoMemory}
use Rattle.cd_tree.specs.KindSets.{has_kind}
use Rattle.cd_tree.specs.Domains.{node_of}
use Rattle.cd_tree.specs.Meaning.{node_reach}
use Rattle.cd_tree.specs.TreeModel.{TreeModel}
use Rattle.cd_tree.specs.Paths.{path_text_of, IsNoPath}
use Rattle.cd_tree.specs.Scripts.{declared_for, IsAccepted}
use Rattle.cd_tree.specs.Refusals.{FirstOf, numbered}

-- the domain of this number has this path
abbrev pub HasPath : List Domain → List ℕ → NodeId → Type 0
HasPath domains path id = (id.0 < length domains) × (path_text_of domains id ≡ path)

-- the number of a domain's items, behind which its last point stands
abbrev pub last_point : List Domain → NodeId → ℕ
last_point domains id = option_map_or (λ (domain : Domain). length domain.items) (slice_get domains id.0) 0

abbrev pub reaches : List Domain → NodeId → Place → Bool
reaches domains id p = option_map_or (λ d. node_reach d p) (node_of domains id) false

-- the fault's point is the domain's / and its place lies in the domain's reach / and its kind is declared on the path
abbrev pub HasPoint : List Domain → RawFault → NodeId → Type 0
HasPoint domains raw id = raw.item ≤ last_point domains id

abbrev pub HasPlace : List Domain → RawFault → NodeId → Type 0
HasPlace domains raw id = HasPoint domains raw id × (reaches domains id raw.place ≡ true)

abbrev pub HasKind : List Domain → RawFault → NodeId → Type 0
HasKind domains raw id = HasPlace domains raw id × (has_kind (declared_for domains id) raw.kind ≡ true)

-- what is refused of a fault, by its number: no domain has its path; or the domain that has it lacks the point; or it
-- does not reach the place; or no one up to the root declares the kind
abbrev pub FaultOf : List Domain → ℕ × RawFault → Option Refusal → Type 0
FaultOf domains (at, raw) None = (id : NodeId) × HasPath domains raw.path id × HasKind domains raw id
FaultOf domains (at, raw) (Some (UnknownPath n)) = (n ≡ at) × IsNoPath domains raw.path
FaultOf domains (at, raw) (Some (NoSuchItem n)) =
    (n ≡ at) × ((id : NodeId) × HasPath domains raw.path id × (last_point domains id < raw.item))
FaultOf domains (at, raw) (Some (OutsideReach n)) =
    (n ≡ at) × ((id : NodeId) × HasPath domains raw.path id × HasPoint domains raw id × (reaches domains id raw.place ≡ false))
FaultOf domains (at, raw) (Some (Undetected n)) =
    (n ≡ at)
    × ((id : NodeId) × HasPath domains raw.path id × HasPlace domains raw id × (has_kind (declared_for domains id) raw.kind ≡ false))
FaultOf domains (at, raw) (Some _) = ⊥

-- the first refusal of a script; faults count from 1
abbrev pub FirstFault : List Domain → List RawFault → Option Refusal → Type 0
FirstFault domains faults answer = FirstOf (FaultOf domains) (numbered 1 faults) answer

-- a fault as accepted: as it was read, with the domain that has its path
abbrev pub IsFoundAs : List Domain → RawFault → Fault → Type 0
IsFoundAs domains raw fault =
    HasPath domains raw.path fault.node
    × (fault ≡ record { node = fault.node; begin = raw.begin; item = raw.item; kind = raw.kind; place = raw.place; mask = raw.mask })

abbrev pub AreFoundAs : List Domain → List RawFault → List Fault → Type 0
AreFoundAs domains [] [] = Unit {0}
AreFoundAs domains [] (fault ∷ faults) = ⊥
AreFoundAs domains (raw ∷ raws) [] = ⊥
AreFoundAs domains (raw ∷ raws) (fault ∷ faults) = IsFoundAs domains raw fault × AreFoundAs domains raws faults

-- what is said of one fault: how it is accepted, or why it is refused
abbrev pub FaultAnswers : List Domain → ℕ → RawFault → Result Fault Refusal → Type 0
FaultAnswers domains at raw (Ok fault) = IsFoundAs domains raw fault × HasKind domains raw fault.node
FaultAnswers domains at raw (Err refusal) = FaultOf domains (at, raw) (Some refusal)

-- what is said of a script: nothing in it is refused, and it is accepted as it was read; or the first refusal; nothing
-- is said where memory ran out
abbrev pub AcceptAnswers : TreeModel → List RawFault → Result (List Fault) Refuse → Type 0
AcceptAnswers tree faults (Ok script) =
    FirstFault tree.domains faults None × AreFoundAs tree.domains faults script × IsAccepted tree script
AcceptAnswers tree faults (Err (Refused refusal)) = FirstFault tree.domains faults (Some refusal)
AcceptAnswers tree faults (Err NoMemory) = Unit {0}
