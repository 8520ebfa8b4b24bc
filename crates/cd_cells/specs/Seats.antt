-- Where a seat is, and what its pass has in hand.
use Rattle.std.specs.Prelude.{◌≡◌, ℕ, ◌+◌, ◌*◌, ◌<◌, ◌∷◌, None, Some}
use Rattle.atomic_table.specs.Table.{rest}
use Rattle.atomic_table.specs.Seated.{TableId}
use Rattle.cd_cells.specs.declared.view.View.{View}
use Rattle.cd_cells.specs.declared.view.Cell.{Cell}
use Rattle.cd_cells.specs.Places.Sort.{holds}
use Rattle.cd_cells.specs.Listing.{find}
use Rattle.cd_cells.specs.Kinds.{Kind}
use Rattle.cd_cells.specs.Views.{tally, name_of}
use Rattle.cd_cells.specs.Rule.{Ticketed}
use Rattle.cd_cells.specs.Steps.{Sat}

-- the seat is at the table, which has two words and a slot for each domain and two words more; its view has the table's key and
-- knows which table it is
pub record IsAt {K T : Type 0} (k : Kind T) (key : K) (table seat : TableId) (v : View K) : Type 0 where
  pub same : seat ≡ table
  pub long : table.words ≡ 2 * k.count + 2
  pub slots : table.slots ≡ k.count
  pub key_is : v.key ≡ Some key
  pub named : v.table ≡ name_of table

-- the pass has a cell in hand to go on with, and this is what was in it: the ticket names the domain with the ask that the pass has
pub record IsInHand {K T : Type 0} (key : K) (m : Sat K T) (d : ℕ) (c : Cell K T) : Type 0 where
  pub held : 0 < tally holds d m.0
  pub hand : m.1 ≡ (d, None) ∷ rest m.1
  pub ticket : Ticketed key m.0.table (find d m.0.holds) c
