-- What a call needs of a state, whatever its domain was sent with.
use Rattle.std.specs.Prelude.{◌≡◌, ◌⊎◌, ℕ, suc, ◌+◌, ◌-◌, ◌<◌, ◌≤◌, true, false, List, [], ◌∷◌, Some, length, slice_get, sum_by, IsSome, IsSomeAnd, Contains}
use Rattle.cd_base.specs.declared.place.Place.{Place}
use Rattle.cd_base.specs.declared.place.Range.{Range}
use Rattle.cd_base.specs.Words.{in_range}
use Rattle.cd_tree.specs.declared.domain.NodeId.{NodeId}
use Rattle.cd_tree.specs.declared.domain.Entry.{Entry}
use Rattle.cd_tree.specs.declared.domain.Item.TheVariants.{Group}
use Rattle.cd_tree.specs.declared.domain.Domain.{Domain}
use Rattle.cd_tree.specs.declared.event.Cause.{Cause}
use Rattle.cd_tree.specs.Domains.{Node, Body, node, node_of, body_of, members_by, node_numbers, body_numbers}
use Rattle.cd_tree.specs.Legal.{entry_at}
use Rattle.cd_tree.specs.Meaning.{node_reach, node_need, member_writes}
use Rattle.cd_tree.specs.Scripts.{IsAccepted, path_of}
use Rattle.cd_tree.specs.Slices.{among}
use Rattle.cd_field.specs.FieldModel.{FieldModel, IsPresent}
use Rattle.cd_keep.specs.PassModel.{PassModel, HoldsNothing}
use Rattle.cd_cover.specs.Links.{link_of}
use Rattle.cd_cover.specs.Outer.{outer_references}
use Rattle.cd_cover.specs.PlanLaws.{need_of}
use Rattle.cd_cover.specs.Plans.{PlanModel}
use Rattle.cd_tries.specs.declared.shelf.Level.{Level}
use Rattle.cd_tries.specs.Keeping.{Known, Cover, KeepsFit, HoldsThese, all_ids, linked_by}
use Rattle.cd_core.specs.declared.state.Ending.{Ending}
use Rattle.cd_core.specs.declared.state.Ending.TheVariants.{Done, Escalated}
use Rattle.cd_core.specs.declared.state.Stage.{Stage}
use Rattle.cd_core.specs.declared.state.Stage.TheVariants.{Ready, Waiting, Resumed, Lost, Ended}
use Rattle.cd_core.specs.StateModel.{StateModel}

-- all that a domain reaches is present
abbrev pub IsHere : Node → FieldModel → Type 0
IsHere d m = (p : Place) → node_reach d p ≡ true → IsPresent m p

-- the link of each outer reference of a domain is among what is kept above, in pieces that have the words of its range
abbrev pub LinksAreKept : PlanModel → Known → Node → List Level → Type 0
LinksAreKept plan known d above =
    (reference : NodeId × ℕ) (entry : Entry) → Contains (outer_references d) reference
    → entry_at plan.tree.domains reference.0 reference.1 ≡ Some entry
    → IsSomeAnd (linked_by above (link_of plan.tree.domains reference.0 reference.1)) (λ pieces. Cover known pieces entry.range)

-- a domain that has begun: the machine is at it, it keeps its entries, and the pass holds what it keeps and nothing else
pub record HasBegun (domain : Domain) (s : StateModel) : Type 0 where
  pub here : s.field.node ≡ s.node
  pub keeps : KeepsFit s.pass.known domain.entries s.keeps
  pub holds : HoldsThese s.pass (all_ids s.keeps)

-- a domain that keeps nothing, with all its room
pub record KeepsNothing (d : Node) (s : StateModel) : Type 0 where
  pub keeps : s.keeps ≡ []
  pub holds : HoldsNothing s.pass
  pub room : s.pass.room ≡ node_need d

pub record FitsReady (d : Node) (s : StateModel) : Type 0 where
  pub nothing : KeepsNothing d s
  pub present : IsHere d s.field

-- a domain waits for the members of a group: their places are away, all others present, and they have their room
pub record FitsWaiting (plan : PlanModel) (d : Node) (domain : Domain) (s : StateModel) (spare point : ℕ) : Type 0 where
  pub begun : HasBegun domain s
  pub tries : spare < domain.retry
  pub ids : List NodeId
  pub group : slice_get domain.items point ≡ Some (Group ids)
  pub present : (p : Place) → node_reach d p ≡ true → member_writes (members_by (node_of plan.tree.domains) ids) p ≡ false → IsPresent s.field p
  pub room : s.pass.room + s.pass.held + sum_by (need_of plan.tree.domains) ids ≡ node_need d

-- a domain goes on behind a group
pub record FitsResumed (d : Node) (domain : Domain) (s : StateModel) (spare point : ℕ) : Type 0 where
  pub begun : HasBegun domain s
  pub tries : spare < domain.retry
  pub group : point < length domain.items
  pub present : IsHere d s.field
  pub room : s.pass.room + s.pass.held ≡ node_need d

-- a cause is of one of these domains
pub record IsOneOf (plan : PlanModel) (numbers : List ℕ) (cause : Cause) : Type 0 where
  pub at : NodeId
  pub one : among numbers at.0 ≡ true
  pub path : cause.path ≡ path_of plan.tree.domains at

-- a cause is of a domain or of one of those below it
abbrev pub IsBlamed : PlanModel → Node → Cause → Type 0
IsBlamed plan d cause = IsOneOf plan (node_numbers d) cause

-- a domain of whose members one has escalated
pub record FitsLost (plan : PlanModel) (d : Node) (domain : Domain) (s : StateModel) (spare : ℕ) (cause : Cause) : Type 0 where
  pub blamed : IsOneOf plan (body_numbers (body_of d)) cause
  pub begun : HasBegun domain s
  pub tries : spare < domain.retry
  pub room : s.pass.room + s.pass.held ≡ node_need d

-- where a domain has ended, all that it reaches is present, unless a member's escalation ended it; for the root, always
abbrev pub IsHereAtEnd : PlanModel → Node → StateModel → Ending → Type 0
IsHereAtEnd plan d s (Done leak) = IsHere d s.field
IsHereAtEnd plan d s (Escalated cause over) = (cause.path ≡ path_of plan.tree.domains s.node) ⊎ (s.node.0 ≡ 0) → IsHere d s.field

-- an escalation is blamed on the domain or on one of those below it
abbrev pub BlamesOwn : PlanModel → Node → Ending → Type 0
BlamesOwn plan d (Done leak) = Unit {0}
BlamesOwn plan d (Escalated cause over) = IsBlamed plan d cause

pub record FitsEnded (plan : PlanModel) (d : Node) (s : StateModel) (ending : Ending) : Type 0 where
  pub blamed : BlamesOwn plan d ending
  pub nothing : KeepsNothing d s
  pub here : s.field.node ≡ s.node
  pub present : IsHereAtEnd plan d s ending

abbrev pub FitsStage : PlanModel → Node → Domain → StateModel → Stage → Type 0
FitsStage plan d domain s Ready = FitsReady d s
FitsStage plan d domain s (Waiting spare point) = FitsWaiting plan d domain s spare point
FitsStage plan d domain s (Resumed spare point) = FitsResumed d domain s spare point
FitsStage plan d domain s (Lost spare cause over) = FitsLost plan d domain s spare cause
FitsStage plan d domain s (Ended ending) = FitsEnded plan d s ending

-- what a call needs of a state
pub record Fits (plan : PlanModel) (s : StateModel) : Type 0 where
  pub domain : Domain
  pub body : Body
  pub is : node_of plan.tree.domains s.node ≡ Some (node s.node domain body)
  pub counts : length s.counts ≡ length (node_numbers (node s.node domain body))
  pub script : IsAccepted plan.tree s.field.script
  pub words : (p : Place) → node_reach (node s.node domain body) p ≡ true → IsSome (s.field.words p)
  pub most : node_need (node s.node domain body) ≤ s.pass.most
  pub links : LinksAreKept plan s.pass.known (node s.node domain body) s.above
  pub stage : FitsStage plan (node s.node domain body) domain s s.stage
