-- What follows from the rule: a block that anybody holds is not taken, and has the words that were kept.
use Rattle.std.specs.Prelude.{◌≡◌, ℕ, ◌<◌, List, Some, slice_index}
use mathlib.Core.Option.{some}
use lib.ListN.{get_elem?}
use Rattle.atomic_table.specs.Table.{State}
use Rattle.cd_keep.specs.declared.keep_id.KeepId.{KeepId}
use Rattle.cd_lease.specs.declared.rule.Size.{Size}
use Rattle.cd_lease.specs.declared.view.View.{View}
use Rattle.cd_lease.specs.Control.{IsOpen, control_at, serial_in, Begins}
use Rattle.cd_lease.specs.Views.{times, words_under}
use Rattle.cd_lease.specs.Rule.{Leased}

pub record IsKeptAt (ws : List ℕ) (v : View) (id : KeepId) : Type 0 where
  pub untaken : IsOpen (slice_index ws (control_at id.block)) → ⊥
  pub serial : serial_in ws id.block ≡ id.serial
  pub begins : (piece : List ℕ) → words_under v.known id ≡ Some piece → Begins ws id.block piece

abbrev pub HeldStays : Type 0
HeldStays = (size : Size) (s : State (Unit {0}) View) → Leased size s → (k : ℕ) (v : View) → get_elem? s.views k ≡ some v
    → (id : KeepId) → 0 < times v.holds id → IsKeptAt s.words v id
