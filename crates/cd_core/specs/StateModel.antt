-- A domain's state as contracts see it, with its machine and its pass.
use Rattle.std.specs.Prelude.{ℕ, List}
use Rattle.cd_tree.specs.declared.domain.NodeId.{NodeId}
use Rattle.cd_field.specs.FieldModel.{FieldModel}
use Rattle.cd_keep.specs.PassModel.{PassModel}
use Rattle.cd_tries.specs.declared.keep.Keep.{Keep}
use Rattle.cd_tries.specs.declared.shelf.Level.{Level}
use Rattle.cd_core.specs.declared.state.Stage.{Stage}
use Rattle.cd_core.specs.declared.state.NodeState.{NodeState}

-- the domain, the begin counts of its subtree in preorder, where it is, what it keeps of its entries, what the domains above
-- keep of theirs, the machine, the pass
pub record StateModel : Type 0 where
  pub node : NodeId
  pub counts : List ℕ
  pub stage : Stage
  pub keeps : List Keep
  pub above : List Level
  pub field : FieldModel
  pub pass : PassModel

abbrev pub state_model : {F P : Type 0} → (F → FieldModel) → (P → PassModel) → NodeState F P → StateModel
state_model field pass s = record {
  node = s.node;
  counts = s.counts.items;
  stage = s.stage;
  keeps = s.keeps;
  above = s.above.items;
  field = field s.field;
  pass = pass s.pass;
}
