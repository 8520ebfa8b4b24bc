-- What a pass has in hand between two calls, and what it may post.
use Rattle.std.specs.Prelude.{◌≡◌, ◌≢◌, ℕ, List, [], ◌∷◌, map, Option, None, Some, IsSomeAnd}
use Rattle.atomic_table.specs.Seated.{TableId}
use Rattle.atomic_table.specs.declared.badge.Badge.{Badge}
use Rattle.cd_core.specs.declared.ask.Ask.{Ask}
use Rattle.cd_cells.specs.declared.view.Meeting.{Meeting}
use Rattle.cd_cells.specs.declared.view.View.{View}
use Rattle.cd_cells.specs.declared.view.Cell.{Cell}
use Rattle.cd_cells.specs.Kinds.{Kind}
use Rattle.cd_cells.specs.Listing.{nodes}
use Rattle.cd_cells.specs.Seats.{IsAt}
use Rattle.cd_cells.specs.Steps.{Sat, claiming, meeting}
use Rattle.cd_cells.specs.Views.{name_of, naming}

-- a pass is in the middle of no call: what it turned it has posted, and whom it took members for it has taken too
pub record IsSettled {K : Type 0} (v : View K) : Type 0 where
  pub turns : v.turns ≡ []
  pub lasts : v.lasts ≡ []
  pub owes : v.owes ≡ []
  pub takes : v.takes ≡ []
  pub clears : v.clears ≡ []

-- a ticket of this table names a domain with its ask
pub record IsTicket {K : Type 0} (key : K) (table : TableId) (ask : Ask) (b : Badge (View K)) : Type 0 where
  pub views : b.views ≡ naming (Some key) (name_of table) ask ∷ []
  pub same : b.table_id ≡ table

-- the ticket of what is in hand, where something is
abbrev pub HasTicket : {K : Type 0} → K → TableId → List Ask → Option (Badge (View K)) → Type 0
HasTicket key table [] ticket = Unit {0}
HasTicket key table (ask ∷ hand) ticket = IsSomeAnd ticket (IsTicket key table ask)

-- an empty slot in hand for each domain in hand
abbrev pub slots_of : {K T : Type 0} → List Ask → List (ℕ × Option (Cell K T))
slots_of [] = []
slots_of (ask ∷ hand) = (ask.node.0, None) ∷ slots_of hand

-- a pass has these domains in hand, and may post those, each with its ask
pub record Has {K T : Type 0} (k : Kind T) (key : K) (table seat : TableId) (me : Sat K T) (own : Option (Badge (View K))) (hand may : List Ask) : Type 0 where
  pub at : IsAt k key table seat me.0
  pub slots : me.1 ≡ slots_of hand
  pub holds : me.0.holds ≡ hand
  pub rights : me.0.rights ≡ nodes may
  pub named : me.0.named ≡ may
  pub settled : IsSettled me.0
  pub ticket : HasTicket key table hand own

-- a claim was won: this state is in hand, ready for its ask
pub record HasClaimed {K T : Type 0} (k : Kind T) (key : K) (table seat : TableId) (old new : Sat K T) (own : Option (Badge (View K))) (may : List Ask) (node : ℕ)
    (state : T) : Type 0 where
  pub ask : Ask
  pub named : ask.node.0 ≡ node
  pub ready : k.Ready ask state
  pub has : Has k key table seat new own (ask ∷ []) may
  pub view : new.0 ≡ claiming old.0 node ask

-- it was not: the word that was met is another
pub record HasMet {K T : Type 0} (k : Kind T) (key : K) (table seat : TableId) (old new : Sat K T) (own : Option (Badge (View K))) (may : List Ask) (by : Meeting)
    (node wanted : ℕ) : Type 0 where
  pub found : ℕ
  pub other : found ≢ wanted
  pub has : Has k key table seat new own [] may
  pub view : new.0 ≡ meeting old.0 by node found

-- what a waiting state asks of its members, in order
abbrev pub members_asked : {T : Type 0} → Kind T → T → List Ask
members_asked k t = map (k.asks t) (k.group t)

-- a domain in hand waits at a group, as its ask has it
pub record WaitsInHand {K T : Type 0} (k : Kind T) (key : K) (table seat : TableId) (me : Sat K T) (own : Option (Badge (View K))) (ask : Ask) (may : List Ask)
    (node : ℕ) (state : T) : Type 0 where
  pub named : ask.node.0 ≡ node
  pub waits : k.Waits ask state
  pub has : Has k key table seat me own (ask ∷ []) may

-- a domain in hand has ended, as its ask has it
pub record EndedInHand {K T : Type 0} (k : Kind T) (key : K) (table seat : TableId) (me : Sat K T) (own : Option (Badge (View K))) (ask : Ask) (may : List Ask)
    (node : ℕ) (state : T) : Type 0 where
  pub named : ask.node.0 ≡ node
  pub ended : k.Ended ask state
  pub has : Has k key table seat me own (ask ∷ []) may

-- the next domain that a pass may post, with its state
pub record MaySend {K T : Type 0} (k : Kind T) (key : K) (table seat : TableId) (me : Sat K T) (own : Option (Badge (View K))) (hand : List Ask) (ask : Ask)
    (may : List Ask) (node : ℕ) (state : T) : Type 0 where
  pub named : ask.node.0 ≡ node
  pub ready : k.Ready ask state
  pub has : Has k key table seat me own hand (ask ∷ may)
