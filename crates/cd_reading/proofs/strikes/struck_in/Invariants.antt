use Rattle.std.proofs.Common.{◌≡◌, ℕ, ◌<◌, get_or}
use Rattle.cd_reading.specs.declared.strikes.Struck.{Struck}
use Rattle.cd_reading.proofs.strikes.struck_in.Given as goal

abbrev pub invariant-loop-struck : goal.invariant-loop-struck
invariant-loop-struck l = (k : ℕ) (d : Struck) → k < l.struck-index → (get_or l.begins k d).begin ≡ l.begin → ⊥
