-- How members are taken back: one after another, each when its turn comes.
use Rattle.std.specs.Prelude.{ℕ, ◌+◌, ◌-◌, ◌≤◌, Bool, List, [], ◌∷◌, Option, length}
use Rattle.cd_tree.specs.declared.event.Cause.{Cause}
use Rattle.cd_field.specs.FieldModel.{absorbed, CanAbsorb}
use Rattle.cd_keep.specs.PassModel.{joined, CanJoin}
use Rattle.cd_cover.specs.Plans.{PlanModel, IsPlan}
use Rattle.cd_core.specs.declared.state.Stage.{Stage}
use Rattle.cd_core.specs.declared.state.Stage.TheVariants.{Ready, Waiting, Resumed, Lost, Ended}
use Rattle.cd_core.specs.StateModel.{StateModel}
use Rattle.cd_core.specs.Fits.{Fits}
use Rattle.cd_core.specs.Resuming.{all_done, first_escalation, put_at, stage_behind}
use Rattle.cd_core.specs.StateLaws.{TakesBack}

-- a member whose turn has come: its machine and its pass can be taken back, and its counts are among those of the state
pub record CanTakeNext (s : StateModel) (commit : Bool) (child : StateModel) : Type 0 where
  pub absorbs : CanAbsorb s.field child.field commit
  pub joins : CanJoin s.pass child.pass
  pub below : s.node.0 ≤ child.node.0
  pub counts : child.node.0 - s.node.0 + length child.counts ≤ length s.counts

-- the state with a member taken back
abbrev pub took : Bool → StateModel → StateModel → StateModel
took commit s child = record s {
  counts = put_at s.counts (child.node.0 - s.node.0) child.counts;
  field = absorbed s.field child.field commit;
  pass = joined s.pass child.pass;
}

-- and with each of them, in order
abbrev pub took_all : Bool → StateModel → List StateModel → StateModel
took_all commit s [] = s
took_all commit s (child ∷ children) = took_all commit (took commit s child) children

-- each of them can be taken when its turn comes
abbrev pub CanTakeAll : Bool → StateModel → List StateModel → Type 0
CanTakeAll commit s [] = Unit {0}
CanTakeAll commit s (child ∷ children) = CanTakeNext s commit child × CanTakeAll commit (took commit s child) children

-- the stage of a waiting domain when its members are taken: it goes on, or its try is over
abbrev pub stage_after : ℕ → Option (Cause × ℕ) → Stage → Stage
stage_after detects lost (Waiting spare point) = stage_behind detects spare point lost
stage_after detects lost Ready = Ready
stage_after detects lost (Resumed spare point) = Resumed spare point
stage_after detects lost (Lost spare cause over) = Lost spare cause over
stage_after detects lost (Ended ending) = Ended ending

-- members that can be taken from the state as it waits can each be taken when its turn comes
abbrev pub MembersCanBeTaken : Type 0
MembersCanBeTaken =
    (plan : PlanModel) (s : StateModel) (children : List StateModel) → IsPlan plan → Fits plan s → TakesBack plan s children
    → CanTakeAll (all_done (first_escalation children)) s children
