-- A pass at the table of cells as its calls say it: what it has in hand, what it may post, and what stays.
use Rattle.std.specs.Prelude.{◌≡◌, ◌≢◌, ℕ, ◌<◌, ◌≤◌, List, [], ◌∷◌, vec_capacity, length}
use Rattle.std.specs.Arc.{arc_value}
use Rattle.atomic_table.specs.Seated.{TableId}
use Rattle.cd_core.specs.declared.ask.Ask.{Ask}
use Rattle.cd_cells.specs.Arrivals.{EndedEach, NotesFirst}
use Rattle.cd_cells.specs.declared.cell_pass.CellPass.{CellPass}
use Rattle.cd_cells.specs.declared.homing.Arrived.{Arrived}
use Rattle.cd_cells.specs.declared.homing.Arrived.TheVariants.{Last, NotLast, Root}
use Rattle.cd_cells.specs.declared.view.Meeting.{Meeting}
use Rattle.cd_cells.specs.declared.view.View.{View}
use Rattle.cd_cells.specs.Hands.{Has}
use Rattle.cd_cells.specs.Kinds.{Kind, Lawful}
use Rattle.cd_cells.specs.Steps.{claiming, closing, meeting, sending}
use Rattle.cd_cells.specs.Views.{newcomer}

-- what its table was opened for, which table it is, and its view
abbrev pub key_of : {K T : Type 0} → CellPass K T → K
key_of pass = (arc_value pass.table).shared.key

abbrev pub table_of : {K T : Type 0} → CellPass K T → TableId
table_of pass = (arc_value pass.table).shared.table_id

abbrev pub view_of : {K T : Type 0} → CellPass K T → View K
view_of pass = pass.seat.me.0

-- two passes, or one at two times, are at the same table
pub record SameTable {K T : Type 0} (old new : CellPass K T) : Type 0 where
  pub key : key_of new ≡ key_of old
  pub table : table_of new ≡ table_of old

-- a pass has these domains in hand, one at most, and may post those, each with its ask; it has room for the members of each group
pub record PassHas {K T : Type 0} (kind : K → Kind T) (pass : CellPass K T) (hand may : List Ask) : Type 0 where
  pub lawful : Lawful (kind (key_of pass))
  pub count : pass.count ≡ (kind (key_of pass)).count
  pub has : Has (kind (key_of pass)) (key_of pass) (table_of pass) pass.seat.table_id pass.seat.me pass.ticket hand may
  pub bare : pass.room.items ≡ []
  pub room : (m : ℕ) → length ((kind (key_of pass)).siblings m) ≤ vec_capacity pass.room

-- a claim was won: this state is in hand, ready for its ask
pub record Claims {K T : Type 0} (kind : K → Kind T) (old new : CellPass K T) (may : List Ask) (node : ℕ) (state : T) : Type 0 where
  pub ask : Ask
  pub named : ask.node.0 ≡ node
  pub ready : (kind (key_of new)).Ready ask state
  pub now : PassHas kind new (ask ∷ []) may
  pub view : view_of new ≡ claiming (view_of old) node ask

-- it was not: the word that was met is another
pub record Meets {K T : Type 0} (kind : K → Kind T) (old new : CellPass K T) (may : List Ask) (by : Meeting) (node wanted : ℕ) : Type 0 where
  pub found : ℕ
  pub other : found ≢ wanted
  pub now : PassHas kind new [] may
  pub view : view_of new ≡ meeting (view_of old) by node found

-- a domain in hand waits at a group, as its ask has it
pub record WaitsHere {K T : Type 0} (kind : K → Kind T) (pass : CellPass K T) (ask : Ask) (may : List Ask) (node : ℕ) (state : T) : Type 0 where
  pub named : ask.node.0 ≡ node
  pub waits : (kind (key_of pass)).Waits ask state
  pub now : PassHas kind pass (ask ∷ []) may

-- the next domain that a pass may post, with its state
pub record PostsNext {K T : Type 0} (kind : K → Kind T) (pass : CellPass K T) (hand : List Ask) (ask : Ask) (may : List Ask) (node : ℕ) (state : T) : Type 0 where
  pub named : ask.node.0 ≡ node
  pub ready : (kind (key_of pass)).Ready ask state
  pub now : PassHas kind pass hand (ask ∷ may)

pub record HasPosted {K T : Type 0} (kind : K → Kind T) (old new : CellPass K T) (hand may : List Ask) (node : ℕ) : Type 0 where
  pub now : PassHas kind new hand may
  pub view : view_of new ≡ sending (view_of old) node

-- the root is taken, with its end
pub record HasClosed {K T : Type 0} (kind : K → Kind T) (old new : CellPass K T) (state : T) : Type 0 where
  pub ended : (kind (key_of old)).Ended (kind (key_of old)).root state
  pub view : view_of new ≡ closing (view_of old)

-- nothing moves, and this is its view
pub record Stays {K T : Type 0} (kind : K → Kind T) (old new : CellPass K T) (hand may : List Ask) (view : View K) : Type 0 where
  pub now : PassHas kind new hand may
  pub seen : view_of new ≡ view

-- another pass at the same table, with nothing in hand, whose view lists nothing
pub record IsSplitOff {K T : Type 0} (kind : K → Kind T) (old child : CellPass K T) : Type 0 where
  pub has : PassHas kind child [] []
  pub same : SameTable old child
  pub view : view_of child ≡ newcomer (view_of old).key (view_of old).table

-- a domain in hand has ended, as its ask has it, and the pass may post nothing
pub record EndsHere {K T : Type 0} (kind : K → Kind T) (pass : CellPass K T) (ask : Ask) (node : ℕ) (state : T) : Type 0 where
  pub named : ask.node.0 ≡ node
  pub ended : (kind (key_of pass)).Ended ask state
  pub now : PassHas kind pass (ask ∷ []) []

-- it is home, and others of its group are not
pub record IsBefore {K T : Type 0} (kind : K → Kind T) (old new : CellPass K T) (node : ℕ) : Type 0 where
  pub member : 0 < node
  pub found : ℕ
  pub more : found ≢ 1
  pub met : NotesFirst (view_of old) (view_of new) Meeting.Arrival ((kind (key_of old)).up node) found
  pub now : PassHas kind new [] []

-- it is home, and was the last of its group: its parent is in hand as it rested, and here are the members as they arrived
pub record IsLast {K T : Type 0} (kind : K → Kind T) (old new : CellPass K T) (node : ℕ) (parent : T) (members : List T) : Type 0 where
  pub member : 0 < node
  pub met : NotesFirst (view_of old) (view_of new) Meeting.Arrival ((kind (key_of old)).up node) 1
  pub ask : Ask
  pub named : ask.node.0 ≡ (kind (key_of old)).up node
  pub waits : (kind (key_of old)).Waits ask parent
  pub now : PassHas kind new (ask ∷ []) []
  pub ended : EndedEach (kind (key_of old)) parent ((kind (key_of old)).group parent) members

-- the root is home
pub record IsRoot {K T : Type 0} (kind : K → Kind T) (old new : CellPass K T) (node : ℕ) : Type 0 where
  pub root : node ≡ 0
  pub met : NotesFirst (view_of old) (view_of new) Meeting.RootArrival 0 1
  pub now : PassHas kind new [] []

abbrev pub ComesHome : {K T : Type 0} → (K → Kind T) → CellPass K T → CellPass K T → ℕ → Arrived T → Type 0
ComesHome kind old new node (Last parent members) = IsLast kind old new node parent members.items
ComesHome kind old new node NotLast = IsBefore kind old new node
ComesHome kind old new node Root = IsRoot kind old new node
