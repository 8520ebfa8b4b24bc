-- Which place a domain is in, by what its views, its phase word or its parent's group say.
use Rattle.std.proofs.Common.{◌≡◌, ℕ, ◌<◌, refl, arith}
use Rattle.cd_cells.specs.Places.{Where, phase, mark, ahead, rests, ends, side, seal}
use Rattle.cd_cells.specs.Places.Where.{idle, due, turning, ready, out, waiting, full, arrived, owed, taken, cleared}
use Rattle.cd_cells.specs.Places.Sort.{rights, turns, holds, lasts, owes, takes, clears}

pub in_due : (p : Where) (t : ℕ) → 0 < mark rights p t → p ≡ due
in_due due t h = refl
in_due _ t h = absurd (omega arith)

pub in_turning : (p : Where) (t : ℕ) → 0 < mark turns p t → p ≡ turning
in_turning turning t h = refl
in_turning _ t h = absurd (omega arith)

pub in_out : (p : Where) (t : ℕ) → 0 < mark holds p t → p ≡ out
in_out out t h = refl
in_out _ t h = absurd (omega arith)

pub in_full : (p : Where) (t : ℕ) → 0 < mark lasts p t → p ≡ full
in_full full t h = refl
in_full _ t h = absurd (omega arith)

pub in_owed : (p : Where) (t : ℕ) → 0 < mark owes p t → p ≡ owed
in_owed owed t h = refl
in_owed _ t h = absurd (omega arith)

pub in_taken : (p : Where) (t : ℕ) → 0 < mark takes p t → p ≡ taken
in_taken taken t h = refl
in_taken _ t h = absurd (omega arith)

pub in_cleared : (p : Where) (t : ℕ) → 0 < mark clears p t → p ≡ cleared
in_cleared cleared t h = refl
in_cleared _ t h = absurd (omega arith)

pub in_ready : (p : Where) → phase p ≡ 2 → p ≡ ready
in_ready ready h = refl
in_ready _ h = absurd (omega arith)

pub in_arrived_root : (p : Where) → seal p ≡ 0 → p ≡ arrived
in_arrived_root arrived h = refl
in_arrived_root _ h = absurd (omega arith)

-- a member that has arrived, of a parent that waits
pub in_arrived : (p : Where) → side p ≡ 1 → ahead p ≡ 0 → p ≡ arrived
in_arrived arrived h l = refl
in_arrived _ h l = absurd (omega arith)

pub in_idle : (p : Where) → side p ≡ 0 → p ≡ idle
in_idle idle h = refl
in_idle _ h = absurd (omega arith)

-- a domain with a word above 0 that rests
pub in_waiting : (p : Where) → rests p ≡ 1 → ends p ≡ 0 → p ≡ waiting
in_waiting waiting h l = refl
in_waiting _ h l = absurd (omega arith)

pub is_full : (p : Where) → rests p ≡ 1 → ends p ≡ 1 → p ≡ full
is_full full h l = refl
is_full _ h l = absurd (omega arith)
