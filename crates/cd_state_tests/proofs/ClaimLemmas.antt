-- For tests: passes at one table.
use Rattle.std.proofs.Common.{ℕ, [], Option, None, Some, MatchOption, ◌∙◌}
use Rattle.cd_cells.specs.declared.cell_pass.CellPass.{CellPass}
use Rattle.cd_cells.specs.declared.view.Meeting.{Meeting}
use Rattle.cd_cells.specs.Passes.{Claims, Meets, SameTable}
use Rattle.cd_state_tests.specs.Claims.{HasTried, IsIdle, sample}

module _ {K T : Type 0} (one other third : CellPass K T) where
  pub same_on : SameTable one other → SameTable other third → SameTable one third
  same_on a b = record { key = b.key ∙ a.key; table = b.table ∙ a.table }

module _ {T : Type 0} (first cells : CellPass ℕ T) (idle : IsIdle first cells) where
  pub idle_on : (new : CellPass ℕ T) → IsIdle cells new → IsIdle first new
  idle_on new h = record { same = same_on first cells new idle.same h.same; has = h.has }

-- what a claim answers is what a thread hands back
pub tried_so : {T : Type 0} (old new : CellPass ℕ T) (claimed : Option T) → SameTable old new
    → MatchOption claimed (Meets (λ key. sample {T = T}) old new [] Meeting.Claim 0 2) (Claims (λ key. sample {T = T}) old new [] 0)
    → HasTried old (new, claimed)
tried_so old new None same met = record { same = same; has = met.now }
tried_so old new (Some state) same won = record { same = same; has = (won.ask, won.named, won.now) }
