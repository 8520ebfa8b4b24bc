-- What each kind of step changes in the stepping pass's view, and what it tells. A step on a domain's phase word says which domain it
-- is by its word; one that brings a cell home, by the cell in hand.
use Rattle.std.specs.Prelude.{◌≡◌, ◌≢◌, ℕ, ◌+◌, ◌/◌, ◌%◌, ◌<◌, List, [], ◌∷◌, ◌++◌, map, length, Option, None, Some, vec_capacity, MatchOption}
use Rattle.atomic_table.specs.Table.{Me, Step, rest}
use Rattle.cd_cells.specs.Asks.{Ask}
use Rattle.cd_cells.specs.declared.view.Meeting.{Meeting}
use Rattle.cd_cells.specs.declared.view.View.{View}
use Rattle.cd_cells.specs.declared.view.Cell.{Cell}
use Rattle.cd_cells.specs.Listing.{often, one_out, all_out, find, ask_out, asks_out}
use Rattle.cd_cells.specs.Kinds.{Kind, IsGrouped}
use Rattle.cd_cells.specs.Rule.{Ticketed, IsSpareList}

-- a view, and the slots in hand
abbrev pub Sat : Type 0 → Type 0 → Type 0
Sat K T = Me (Option (Cell K T)) (View K)

abbrev pub Tells : Type 0 → Type 0 → Type 1
Tells K T = Step (Option (Cell K T)) → Sat K T → ℕ → Sat K T → Type 0

abbrev pub with_view : {K T : Type 0} → Sat K T → View K → Sat K T
with_view m v = (v, m.1)

-- the seat with this view, when the cell taken last is back home
abbrev pub homing : {K T : Type 0} → Sat K T → View K → Sat K T
homing m v = (v, rest m.1)

-- the seat with this view and this cell in hand
abbrev pub handed : {K T : Type 0} → Sat K T → View K → ℕ → Option (Cell K T) → Sat K T
handed m v d c = (v, (d, c) ∷ m.1)

-- a seat with nothing in hand
abbrev pub bare : {K T : Type 0} → View K → Sat K T
bare v = (v, [])

-- a word that was met
abbrev pub meeting : {K : Type 0} → View K → Meeting → ℕ → ℕ → View K
meeting v by d n = record v { met = record { by = by; cell = d; word = n } ∷ v.met }

-- turn: a domain that the pass may post comes in hand, with what is wanted of it
abbrev pub turning : {K : Type 0} → View K → ℕ → View K
turning v d = record v { rights = one_out d v.rights; turns = find d v.named ∷ v.turns }

abbrev pub Turns : {K T : Type 0} → Tells K T
Turns st m n m' = m' ≡ handed m (turning m.0 (st.word / 2)) (st.word / 2) None

-- post
abbrev pub posting : {K : Type 0} → View K → ℕ → View K
posting v d = record v { turns = ask_out d v.turns; posts = d ∷ v.posts }

abbrev pub Posts : {K T : Type 0} → Tells K T
Posts st m n m' = m' ≡ homing m (posting m.0 (st.word / 2))

-- claim: where the word was 2, the cell comes in hand with its ticket; else nothing changes but that a word was met. `left` is what the
-- slot in hand has afterwards
abbrev pub claiming : {K : Type 0} → View K → ℕ → Ask → View K
claiming v d a = record (meeting v Meeting.Claim d 2) { holds = a ∷ v.holds; claims = d ∷ v.claims }

pub record Claimed {K T : Type 0} (k : Kind T) (key : K) (m : Sat K T) (d : ℕ) (m' : Sat K T) (cell : Cell K T) (left : Option (Cell K T)) : Type 0 where
  pub ask : Ask
  pub node : ask.node.0 ≡ d
  pub now : m' ≡ handed m (claiming m.0 d ask) d left
  pub ready : k.Ready ask cell.state
  pub ticket : Ticketed key m.0.table ask cell

abbrev pub Claims : {K T : Type 0} → (K → Kind T) → Tells K T
Claims kind st m n m' = (key : _) → m.0.key ≡ Some key
    → (n ≡ 2 → (c : _) × Claimed (kind key) key m (st.word / 2) m' c (Some c)) × (n ≢ 2 → m' ≡ with_view m (meeting m.0 Meeting.Claim (st.word / 2) n))

-- rest: the pass may post each member, and names it with what the waiting state asks of it
abbrev pub resting : {K T : Type 0} → Kind T → View K → ℕ → T → View K
resting k v d t = record v { holds = ask_out d v.holds; rights = k.group t ++ v.rights; named = map (k.asks t) (k.group t) ++ v.named }

abbrev pub Rests : {K T : Type 0} → (K → Kind T) → Tells K T
Rests kind st m n m' = (key : _) → m.0.key ≡ Some key → (d : ℕ) (c : _) → m.1 ≡ (d, Some c) ∷ rest m.1 → m' ≡ homing m (resting (kind key) m.0 d c.state)

-- arrive: the root's arrival; an arrival before others; and the last one, after which the pass may take the members, then the parent
abbrev pub arriving : {K : Type 0} → View K → ℕ → View K
arriving v d = record v { holds = ask_out d v.holds; arrives = d ∷ v.arrives }

abbrev pub arriving_last : {K T : Type 0} → Kind T → View K → ℕ → View K
arriving_last k v d = record (arriving v d) { lasts = k.up d ∷ v.lasts; owes = k.siblings d ++ v.owes }

abbrev pub ArrivesAtRoot : {K T : Type 0} → Tells K T
ArrivesAtRoot st m n m' = (n ≡ 1) × (m' ≡ homing m (meeting (arriving m.0 0) Meeting.RootArrival 0 1))

abbrev pub Arrives : {K T : Type 0} → (K → Kind T) → Tells K T
Arrives kind st m n m' = (key : _) → m.0.key ≡ Some key → (d : ℕ) (c : _) → m.1 ≡ (d, Some c) ∷ rest m.1
    → (n ≡ 1 → m' ≡ homing m (meeting (arriving_last (kind key) m.0 d) Meeting.Arrival ((kind key).up d) 1))
    × (n ≢ 1 → m' ≡ homing m (meeting (arriving m.0 d) Meeting.Arrival ((kind key).up d) n))
    × (n ≡ 1 → IsGrouped (kind key) d)

-- the last arriver takes a member, and leaves its cell empty
abbrev pub taking : {K : Type 0} → View K → ℕ → View K
taking v d = record v { owes = one_out d v.owes; takes = d ∷ v.takes }

pub record Taken {K T : Type 0} (k : Kind T) (key : K) (m : Sat K T) (d : ℕ) (m' : Sat K T) (cell : Cell K T) (left : Option (Cell K T)) : Type 0 where
  pub ask : Ask
  pub node : ask.node.0 ≡ d
  pub now : m' ≡ handed m (taking m.0 d) d left
  pub ended : k.Ended ask cell.state
  pub ticket : Ticketed key m.0.table ask cell

abbrev pub Takes : {K T : Type 0} → (K → Kind T) → Tells K T
Takes kind st m n m' = (key : _) → m.0.key ≡ Some key → (c : _) × Taken (kind key) key m (st.word / 2) m' c (Some c)

abbrev pub clearing : {K : Type 0} → View K → ℕ → View K
clearing v d = record v { takes = one_out d v.takes; clears = d ∷ v.clears }

abbrev pub Clears : {K T : Type 0} → Tells K T
Clears st m n m' = m' ≡ homing m (clearing m.0 (st.word / 2))

-- it takes the parent: what it named its members with is what the parent's state asks of them
abbrev pub resuming : {K : Type 0} → View K → ℕ → Ask → List ℕ → View K
resuming v p a g = record v { lasts = one_out p v.lasts; holds = a ∷ v.holds; clears = all_out g v.clears; named = asks_out g v.named }

pub record Resumed {K T : Type 0} (k : Kind T) (key : K) (m : Sat K T) (p : ℕ) (m' : Sat K T) (cell : Cell K T) (left : Option (Cell K T)) : Type 0 where
  pub ask : Ask
  pub node : ask.node.0 ≡ p
  pub now : m' ≡ handed m (resuming m.0 p ask (k.group cell.state)) p left
  pub waits : k.Waits ask cell.state
  pub ticket : Ticketed key m.0.table ask cell
  pub asks : (i : ℕ) → 0 < often i (k.group cell.state) → find i m.0.named ≡ k.asks cell.state i
  pub list : IsSpareList (length (k.group cell.state)) cell.list.items (vec_capacity cell.list)

abbrev pub Resumes : {K T : Type 0} → (K → Kind T) → Tells K T
Resumes kind st m n m' = (key : _) → m.0.key ≡ Some key → (c : _) × Resumed (kind key) key m (st.word / 2) m' c (Some c)

-- close
abbrev pub closing : {K : Type 0} → View K → View K
closing v = record (meeting v Meeting.Close 0 0) { shuts = 0 ∷ v.shuts }

pub record Closed {K T : Type 0} (k : Kind T) (key : K) (m m' : Sat K T) (cell : Cell K T) (left : Option (Cell K T)) : Type 0 where
  pub now : m' ≡ handed m (closing m.0) 0 left
  pub ended : k.Ended k.root cell.state
  pub ticket : Ticketed key m.0.table k.root cell

abbrev pub Closes : {K T : Type 0} → (K → Kind T) → Tells K T
Closes kind st m n m' = (key : _) → m.0.key ≡ Some key
    → (n ≡ 0 → (c : _) × Closed (kind key) key m m' c (Some c)) × (n ≢ 0 → m' ≡ with_view m (meeting m.0 Meeting.Close 0 n))

-- stop, and look: who has stopped finds the stop bit
abbrev pub stopping : {K : Type 0} → View K → View K
stopping v = record v { stops = v.stops + 1 }

abbrev pub Stops : {K T : Type 0} → Tells K T
Stops st m n m' = m' ≡ with_view m (stopping m.0)

abbrev pub Looks : {K T : Type 0} → Tells K T
Looks st m n m' = (m' ≡ with_view m (meeting m.0 Meeting.Look 0 n)) × (0 < m.0.stops → n % 2 ≡ 1)

-- the first pass learns which table it is at
abbrev pub knowing : {K : Type 0} → View K → List ℕ → View K
knowing v name = record v { table = name; fresh = 0 }

abbrev pub Learns : {K T : Type 0} → List ℕ → Tells K T
Learns name st m n m' = m' ≡ with_view m (knowing m.0 name)

-- split: a ticket, which takes the name of its domain along
abbrev pub unnaming : {K : Type 0} → View K → ℕ → View K
unnaming v d = record v { named = ask_out d v.named }

-- a claim by its answer: none exactly where the word that it met was not 2
abbrev pub ClaimedBy : {K T : Type 0} → Kind T → K → Sat K T → ℕ → Sat K T → Option (Cell K T) → Type 0
ClaimedBy k key m d m' result =
    (found : ℕ) × MatchOption result ((found ≢ 2) × (m' ≡ with_view m (meeting m.0 Meeting.Claim d found))) (λ c. (found ≡ 2) × Claimed k key m d m' c None)

abbrev pub ClosedBy : {K T : Type 0} → Kind T → K → Sat K T → Sat K T → Option (Cell K T) → Type 0
ClosedBy k key m m' result =
    (found : ℕ) × MatchOption result ((found ≢ 0) × (m' ≡ with_view m (meeting m.0 Meeting.Close 0 found))) (λ c. (found ≡ 0) × Closed k key m m' c None)

-- join of a ticket: its name comes here
abbrev pub also_naming : {K : Type 0} → View K → Ask → View K
also_naming v a = record v { named = v.named ++ a ∷ [] }

-- ---- several steps in a row

-- turn, ticket and post
abbrev pub sending : {K : Type 0} → View K → ℕ → View K
sending v d = record v { rights = one_out d v.rights; named = ask_out d v.named; posts = d ∷ v.posts }
