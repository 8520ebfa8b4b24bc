-- For tests: passes at a table for a program of one domain, whose states may be anything.
use Rattle.std.specs.Prelude.{◌≡◌, ℕ, List, [], ◌∷◌, Option, MatchOption}
use Rattle.cd_core.specs.declared.ask.Ask.{Ask}
use Rattle.cd_cells.specs.declared.cell_pass.CellPass.{CellPass}
use Rattle.cd_cells.specs.Listing.{no_ask}
use Rattle.cd_cells.specs.Kinds.{Kind}
use Rattle.cd_cells.specs.Passes.{PassHas, SameTable}

abbrev pub sample : {T : Type 0} → Kind T
sample = record {
  count = 1;
  up = λ m. 0;
  siblings = λ m. [];
  root = no_ask;
  Ready = λ a t. Unit {0};
  Waits = λ a t. ⊥;
  Ended = λ a t. Unit {0};
  group = λ t. [];
  asks = λ t m. no_ask;
}

abbrev pub SampleHas : {T : Type 0} → CellPass ℕ T → List Ask → List Ask → Type 0
SampleHas {T} cells hand may = PassHas (λ (key : ℕ). sample {T = T}) cells hand may

-- a pass at the table of another, with nothing in hand and nothing to post
pub record IsIdle {T : Type 0} (first cells : CellPass ℕ T) : Type 0 where
  pub same : SameTable first cells
  pub has : SampleHas cells [] []

-- a pass at the table of another that tried to claim the root, with the state where it has it
pub record HasTried {T : Type 0} (first : CellPass ℕ T) (back : CellPass ℕ T × Option T) : Type 0 where
  pub same : SameTable first back.0
  pub has : MatchOption back.1 (SampleHas back.0 [] []) (λ state. (ask : Ask) × (ask.node.0 ≡ 0) × SampleHas back.0 (ask ∷ []) [])
