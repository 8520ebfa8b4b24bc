-- What holds as the tries of a domain begin, what they come to, and what holds when they are done.
use Rattle.std.specs.Prelude.{◌≡◌, true, IsSome, ℕ, ◌+◌, ◌-◌, ◌<◌, ◌≤◌, ◌^◌, All, List, [], ◌∷◌, length, Some, slice_get}
use Rattle.cd_base.specs.declared.place.Place.{Place}
use Rattle.cd_tree.specs.declared.domain.NodeId.{NodeId}
use Rattle.cd_tree.specs.declared.domain.Domain.{Domain}
use Rattle.cd_tree.specs.declared.domain.Item.TheVariants.{Group}
use Rattle.cd_tree.specs.Domains.{Node, node_of, node_numbers}
use Rattle.cd_tree.specs.Meaning.{node_need, node_reach}
use Rattle.cd_tree.specs.Scripts.{IsAccepted, path_of}
use Rattle.cd_field.specs.FieldModel.{FieldModel, ArePresent, begun, without}
use Rattle.cd_keep.specs.PassModel.{PassModel, HoldsNothing}
use Rattle.cd_keep.specs.PassModel as passes
use Rattle.cd_cover.specs.PlanLaws.{need_of}
use Rattle.cd_cover.specs.Plans.{PlanModel}
use Rattle.cd_tries.specs.declared.keep.Keep.{Keep}
use Rattle.cd_tries.specs.Fitting.{ArePresentIn, CanPreserve, CanTry, StrikesWithin}
use Rattle.cd_tries.specs.Keeping.{KeepsFit, HoldsThese, all_ids}
use Rattle.cd_tries.specs.Preserving.{links_for}
use Rattle.cd_tries.specs.Running.{next_begin}
use Rattle.cd_core.specs.declared.state.Stage.{Stage}
use Rattle.cd_core.specs.declared.state.Stage.TheVariants.{Ready, Resumed, Lost}
use Rattle.cd_core.specs.declared.verdict.Verdict.{Verdict}
use Rattle.cd_core.specs.declared.verdict.Verdict.TheVariants.{Waits, Completes, Escalates}
use Rattle.cd_core.specs.Advancing.{Judged, TriesSo, means_of, own_count, size_of, state_sending}
use Rattle.cd_core.specs.Asks.{foot_of}
use Rattle.cd_core.specs.Fits.{IsBlamed, LinksAreKept}
use Rattle.cd_core.specs.StateModel.{StateModel}

-- ---- before

-- a domain that has not begun: it keeps nothing, and its entries can be preserved as it begins
pub record CanBegin (plan : PlanModel) (domain : Domain) (s : StateModel) : Type 0 where
  pub counts : 0 < length s.counts
  pub tries : 0 < domain.retry
  pub nothing : HoldsNothing s.pass
  pub can : CanPreserve domain (links_for plan.tree.domains s.node s.above) (begun s.field s.node (next_begin (own_count s))) s.pass
  pub strikes : StrikesWithin s.node domain.entries s.field.script

-- a domain that has begun, and can be tried again
pub record CanGoOn (plan : PlanModel) (domain : Domain) (s : StateModel) : Type 0 where
  pub counts : 0 < length s.counts
  pub here : s.field.node ≡ s.node
  pub few : length domain.items < 2 ^ 32
  pub can : CanTry (means_of plan domain s.node s.pass.known s.keeps) s.field s.pass

-- what the stage of a domain that can move gives its tries
abbrev pub CanMakeTries : PlanModel → Domain → StateModel → Stage → Type 0
CanMakeTries plan domain s Ready = CanBegin plan domain s
CanMakeTries plan domain s (Resumed spare point) =
    CanGoOn plan domain s × ArePresentIn domain.entries s.field × (point < length domain.items)
CanMakeTries plan domain s (Lost spare cause over) = CanGoOn plan domain s
CanMakeTries plan domain s _ = ⊥

-- ---- the tries

-- the state when the tries that are due at a stage have come to a verdict, the stage itself apart
pub record TriedFrom (stage : Stage) (plan : PlanModel) (domain : Domain) (old new : StateModel) (verdict : Verdict) : Type 0 where
  pub keeps : List Keep
  pub pass : PassModel
  pub judged : Judged
  pub tried : TriesSo plan domain old keeps pass judged stage
  pub is : verdict ≡ judged.verdict
  pub state : new ≡ record (state_sending old keeps judged.begin judged.field pass) { stage = new.stage }

-- ---- after

-- at a group all entries are present, and a try is still to spare
pub record FitsWaits (domain : Domain) (s : StateModel) (spare point : ℕ) : Type 0 where
  pub present : ArePresentIn domain.entries s.field
  pub tries : spare < domain.retry
  pub ids : List NodeId
  pub group : slice_get domain.items point ≡ Some (Group ids)

-- what a verdict leaves: a domain that escalates for a member's sake has not all present
abbrev pub FitsVerdict : PlanModel → Node → Domain → StateModel → Verdict → Type 0
FitsVerdict plan d domain s (Waits spare point) = FitsWaits domain s spare point
FitsVerdict plan d domain s (Completes leak) = ArePresentIn domain.entries s.field
FitsVerdict plan d domain s (Escalates cause over) =
    IsBlamed plan d cause × (cause.path ≡ path_of plan.tree.domains s.node → ArePresentIn domain.entries s.field)

-- a domain whose tries are done, before it sends members or ends
pub record FitsTried (plan : PlanModel) (d : Node) (domain : Domain) (s : StateModel) (verdict : Verdict) : Type 0 where
  pub is : node_of plan.tree.domains s.node ≡ Some d
  pub counts : length s.counts ≡ length (node_numbers d)
  pub script : IsAccepted plan.tree s.field.script
  pub words : (p : Place) → node_reach d p ≡ true → IsSome (s.field.words p)
  pub most : node_need d ≤ s.pass.most
  pub links : LinksAreKept plan s.pass.known d s.above
  pub here : s.field.node ≡ s.node
  pub keeps : KeepsFit s.pass.known domain.entries s.keeps
  pub holds : HoldsThese s.pass (all_ids s.keeps)
  pub room : s.pass.room + s.pass.held ≡ node_need d
  pub leaves : FitsVerdict plan d domain s verdict

-- ---- sending

-- members can be sent one after another: what each touches is present, and there is room for what it needs
abbrev pub CanSendAll : PlanModel → List NodeId → FieldModel → PassModel → Type 0
CanSendAll plan [] m p = Unit {0}
CanSendAll plan (id ∷ ids) m p =
    ArePresent m (foot_of plan id).reads × ArePresent m (foot_of plan id).writes × (need_of plan.tree.domains id ≤ p.room)
    × CanSendAll plan ids (without m (foot_of plan id).writes) (passes.without p (need_of plan.tree.domains id))

-- a domain below another, and the counts of the other that are its own
pub record IsBelow (plan : PlanModel) (s : StateModel) (id : NodeId) : Type 0 where
  pub there : id.0 < length plan.tree.domains
  pub below : s.node.0 ≤ id.0
  pub counts : id.0 - s.node.0 + size_of plan id ≤ length s.counts

abbrev pub AreBelow : PlanModel → StateModel → List NodeId → Type 0
AreBelow plan s ids = All (IsBelow plan s) ids
