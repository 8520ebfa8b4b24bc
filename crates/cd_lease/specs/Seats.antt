-- Where a seat is, and when its pass is between calls.
use Rattle.std.specs.Prelude.{◌≡◌, ◌*◌, None}
use Rattle.atomic_table.specs.Seated.{TableId}
use Rattle.cd_lease.specs.declared.rule.Size.{Size}
use Rattle.cd_lease.specs.declared.view.View.{View}

-- the seat is at the table, which has 65 words for each block
pub record IsAt (table seat : TableId) (size : Size) : Type 0 where
  pub same : seat ≡ table
  pub long : table.words ≡ 65 * size.blocks

-- the pass fills and tries no block
pub record IsIdle (v : View) : Type 0 where
  pub filling : v.filling ≡ None
  pub trying : v.trying ≡ None
