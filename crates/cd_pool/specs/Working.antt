-- What a worker is given, and what it hands back.
use Rattle.std.specs.Prelude.{List, [], ◌∷◌, All, Result, Ok, Err, IfOk}
use Rattle.cd_field.specs.FieldModel.{FieldModel}
use Rattle.cd_keep.specs.PassModel.{PassModel}
use Rattle.cd_pool.specs.declared.worker.Job.{Job}
use Rattle.cd_core.specs.declared.state.NodeState.{NodeState}
use Rattle.cd_cells.specs.declared.cell_pass.CellPass.{CellPass}
use Rattle.cd_cells.specs.declared.start.Start.{Start}
use Rattle.cd_cells.specs.Passes.{SameTable}
use Rattle.cd_cells.specs.Working.{Works}

-- a pass at the table of another, with nothing in hand and nothing to post
pub record IsFree {F P : Type 0} (field : F → FieldModel) (pass : P → PassModel) (first cells : CellPass (Start F) (NodeState F P)) : Type 0 where
  pub same : SameTable first cells
  pub works : Works field pass cells [] []

-- a worker hands its pass back so, unless it met want of memory
abbrev pub HandsBack : {F P E : Type 0} → (F → FieldModel) → (P → PassModel) → CellPass (Start F) (NodeState F P) → Result (CellPass (Start F) (NodeState F P)) E → Type 0
HandsBack field pass first back = IfOk back (IsFree field pass first)

-- so do all of them
abbrev pub HandBack : {F P E : Type 0} → (F → FieldModel) → (P → PassModel) → CellPass (Start F) (NodeState F P) → List (Result (CellPass (Start F) (NodeState F P)) E) → Type 0
HandBack field pass first backs = All (HandsBack field pass first) backs

-- one of them met want of memory
abbrev pub MetWant : {A E : Type 0} → List (Result A E) → Type 0
MetWant [] = ⊥
MetWant (Ok pass ∷ backs) = MetWant backs
MetWant (Err want ∷ backs) = Unit {0}

-- all jobs are at one table, and have nothing in hand
abbrev pub AreFree : {F P : Type 0} → (F → FieldModel) → (P → PassModel) → CellPass (Start F) (NodeState F P) → List (Job F P) → Type 0
AreFree {F} {P} field pass first jobs = All (λ (job : Job F P). IsFree field pass first job.cells) jobs
