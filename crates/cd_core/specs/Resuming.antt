-- What `resume` does, exactly: the members are absorbed in order, all committed or none.
use Rattle.std.specs.Prelude.{◌≡◌, ℕ, ◌+◌, ◌-◌, Bool, true, false, ◌&&◌, bit_or, List, [], ◌∷◌, ◌++◌, Option, None, Some, take, drop, length}
use Rattle.cd_tree.specs.declared.domain.NodeId.{NodeId}
use Rattle.cd_tree.specs.declared.domain.Domain.{Domain}
use Rattle.cd_tree.specs.declared.event.Cause.{Cause}
use Rattle.cd_tree.specs.KindSets.{no_kinds, kinds_without}
use Rattle.cd_tree.specs.Meaning.{node_writes}
use Rattle.cd_tree.specs.Domains.{Node, node_of}
use Rattle.cd_base.specs.declared.place.Place.{Place}
use Rattle.cd_base.specs.Words.{in_ranges}
use Rattle.cd_field.specs.FieldModel.{FieldModel, absorbed, CanAbsorb}
use Rattle.cd_keep.specs.PassModel.{PassModel, joined, CanJoin}
use Rattle.cd_cover.specs.Plans.{PlanModel}
use Rattle.cd_core.specs.declared.state.Ending.{Ending}
use Rattle.cd_core.specs.declared.state.Ending.TheVariants.{Done, Escalated}
use Rattle.cd_core.specs.declared.state.Stage.{Stage}
use Rattle.cd_core.specs.declared.state.Stage.TheVariants.{Ready, Waiting, Resumed, Lost, Ended}
use Rattle.cd_core.specs.StateModel.{StateModel}
use Rattle.cd_core.specs.Fits.{Fits}

-- ---- how members ended

abbrev pub escalation : Stage → Option (Cause × ℕ)
escalation Ready = None
escalation (Waiting spare point) = None
escalation (Resumed spare point) = None
escalation (Lost spare cause over) = None
escalation (Ended (Done leak)) = None
escalation (Ended (Escalated cause over)) = Some (cause, over)

-- the cause of the first that escalated, and what all of them leave over
abbrev pub with_more : Option (Cause × ℕ) → Option (Cause × ℕ) → Option (Cause × ℕ)
with_more None rest = rest
with_more (Some first) None = Some first
with_more (Some (cause, over)) (Some (other, more)) = Some (cause, bit_or over more)

abbrev pub first_escalation : List StateModel → Option (Cause × ℕ)
first_escalation [] = None
first_escalation (child ∷ children) = with_more (escalation child.stage) (first_escalation children)

abbrev pub all_done : Option (Cause × ℕ) → Bool
all_done None = true
all_done (Some first) = false

-- the domain goes on behind the group, or its try is over, with the kinds of these that it does not declare
abbrev pub stage_behind : ℕ → ℕ → ℕ → Option (Cause × ℕ) → Stage
stage_behind detects spare point None = Resumed spare point
stage_behind detects spare point (Some (cause, over)) = Lost spare cause (kinds_without over detects)

-- ---- what they give

abbrev pub absorbed_all : Bool → List StateModel → FieldModel → FieldModel
absorbed_all commit [] m = m
absorbed_all commit (child ∷ children) m = absorbed_all commit children (absorbed m child.field commit)

abbrev pub joined_all : List StateModel → PassModel → PassModel
joined_all [] p = p
joined_all (child ∷ children) p = joined_all children (joined p child.pass)

-- a part of a list replaced, from a place on
abbrev pub put_at : List ℕ → ℕ → List ℕ → List ℕ
put_at counts at part = take at counts ++ (part ++ drop (at + length part) counts)

abbrev pub counts_taken : NodeId → List StateModel → List ℕ → List ℕ
counts_taken first [] counts = counts
counts_taken first (child ∷ children) counts = counts_taken first children (put_at counts (child.node.0 - first.0) child.counts)

abbrev pub resumed_at : StateModel → Domain → List StateModel → Stage → StateModel
resumed_at s domain children (Waiting spare point) = record s {
  counts = counts_taken s.node children s.counts;
  stage = stage_behind domain.detects spare point (first_escalation children);
  field = absorbed_all (all_done (first_escalation children)) children s.field;
  pass = joined_all children s.pass;
}
resumed_at s domain children _ = s

-- the state behind the call
abbrev pub resumed : StateModel → Domain → List StateModel → StateModel
resumed s domain children = resumed_at s domain children s.stage

-- ---- what it needs

-- a member that came back: it has ended, its machine was carved for what it writes, and machine and pass can be taken back
pub record CanTake (plan : PlanModel) (s : StateModel) (commit : Bool) (child : StateModel) : Type 0 where
  pub fits : Fits plan child
  pub ending : Ending
  pub ended : child.stage ≡ Ended ending
  pub carved : (d : Node) → node_of plan.tree.domains child.node ≡ Some d
      → (p : Place) → in_ranges child.field.carved p ≡ node_writes d p
  pub absorbs : CanAbsorb s.field child.field commit
  pub joins : CanJoin s.pass child.pass

abbrev pub CanTakeEach : PlanModel → StateModel → Bool → List StateModel → Type 0
CanTakeEach plan s commit [] = Unit {0}
CanTakeEach plan s commit (child ∷ children) = CanTake plan s commit child × CanTakeEach plan s commit children

-- the members of the group for which the state waits, in order
abbrev pub nodes_of : List StateModel → List NodeId
nodes_of [] = []
nodes_of (child ∷ children) = child.node ∷ nodes_of children
