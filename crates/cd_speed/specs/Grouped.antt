-- The cells that are timed: a domain with a group of four members, whose states may be anything.
use Rattle.std.specs.Prelude.{◌≡◌, ℕ, List, [], ◌∷◌, None}
use Rattle.cd_core.specs.declared.ask.Ask.{Ask}
use Rattle.cd_cells.specs.declared.cell_pass.CellPass.{CellPass}
use Rattle.cd_cells.specs.Kinds.{Kind}
use Rattle.cd_cells.specs.Passes.{PassHas}

abbrev pub four : List ℕ
four = 1 ∷ 2 ∷ 3 ∷ 4 ∷ []

abbrev pub ask_of : ℕ → Ask
ask_of m = record { node = record { 0 = m }; words = []; counts = []; links = []; store = None }

abbrev pub grouped : {T : Type 0} → Kind T
grouped = record {
  count = 5;
  up = λ m. 0;
  siblings = λ m. four;
  root = ask_of 0;
  Ready = λ a t. Unit {0};
  Waits = λ a t. a.node.0 ≡ 0;
  Ended = λ a t. Unit {0};
  group = λ t. four;
  asks = λ t m. ask_of m;
}

-- what a pass has in hand, and what it may post
abbrev pub Holds : {T : Type 0} → CellPass ℕ T → List Ask → List Ask → Type 0
Holds {T} cells hand may = PassHas (λ (key : ℕ). grouped {T = T}) cells hand may

-- it has a domain in hand
pub record HasInHand {T : Type 0} (cells : CellPass ℕ T) (node : ℕ) : Type 0 where
  pub ask : Ask
  pub named : ask.node.0 ≡ node
  pub holds : Holds cells (ask ∷ []) []
