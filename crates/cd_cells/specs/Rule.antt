-- The rule of the table of cells, which holds between any two steps.
use Rattle.std.specs.Prelude.{◌≡◌, ℕ, zero, suc, ◌+◌, ◌*◌, ◌<◌, ◌≤◌, ◌⊎◌, List, [], ◌∷◌, Option, Some, None, length, slice_index, vec_capacity}
use mathlib.Core.Option.{Option as Maybe, some, none}
use lib.ListN.{get_elem?}
use Rattle.atomic_table.specs.Table.{State}
use Rattle.cd_cells.specs.Asks.{Ask}
use Rattle.cd_cells.specs.declared.view.View.{View}
use Rattle.cd_cells.specs.declared.view.Cell.{Cell}
use Rattle.cd_cells.specs.Places.{Where, Sort, Content, phase, mark, ahead, rests, ends, side, seal, over, content}
use Rattle.cd_cells.specs.Places.Where.{waiting}
use Rattle.cd_cells.specs.Places.Sort.{rights, lasts, owes, takes, clears, names}
use Rattle.cd_cells.specs.Places.Content.{nothing, away, fresh, waits, ended}
use Rattle.cd_cells.specs.Listing.{often, weigh, total}
use Rattle.cd_cells.specs.Kinds.{Kind, IsMember, Lawful}
use Rattle.cd_cells.specs.Views.{tally, name_of, naming}

-- ---- the words: word 0 has the stop bit; then a phase word and a count word for each domain; then the root's own count word

abbrev pub phase_at : ℕ → ℕ
phase_at d = 2 * d + 1

abbrev pub count_at : ℕ → ℕ
count_at d = 2 * d + 2

abbrev pub root_at : ℕ → ℕ
root_at n = 2 * n + 1

abbrev pub stop_of : ℕ → ℕ
stop_of zero = 0
stop_of (suc n) = 1

-- ---- hands, rights and counts: all views together list each domain as often as its place and its rounds say

abbrev pub Counts : {K : Type 0} → ℕ → (ℕ → Where) → (ℕ → ℕ) → List (View K) → Type 0
Counts n place times views = (q : Sort) (d : ℕ) → d < n → total (tally q d) views ≡ mark q (place d) (times d)

abbrev pub Phases : ℕ → (ℕ → Where) → List ℕ → Type 0
Phases n place words = (d : ℕ) → d < n → slice_index words (phase_at d) ≡ phase (place d)

-- ---- groups: a domain that rests has one, and its count word is the number of its members that have not arrived

pub record Groups {T : Type 0} (k : Kind T) (place : ℕ → Where) (group : ℕ → List ℕ) (words : List ℕ) : Type 0 where
  pub word : (p : ℕ) → p < k.count → rests (place p) ≡ 1 → slice_index words (count_at p) ≡ weigh (λ m. ahead (place m)) (group p)
  pub above : (p : ℕ) → p < k.count → place p ≡ waiting → 0 < slice_index words (count_at p)
  pub member : (p : ℕ) → p < k.count → (m : ℕ) → 0 < often m (group p) → IsMember k p (group p) m
  pub sides : (p : ℕ) → p < k.count → (m : ℕ) → 0 < often m (group p) → side (place m) ≡ 1 + ends (place p)
  pub grouped : (m : ℕ) → 0 < m → m < k.count → 0 < side (place m) → 0 < often m (group (k.up m))
  pub none : (p : ℕ) → p < k.count → rests (place p) ≡ 0 → group p ≡ []

-- the root's own count word: 1 until it has arrived, 0 while it is at home with its end, 2 once it is closed
pub record Rooted (p : Where) (t w : ℕ) : Type 0 where
  pub word : w ≡ seal p
  pub never : seal p < 3
  pub times : t ≡ over p

-- ---- asks

-- each of these asks is what is wanted of its domain
abbrev pub Knows : (ℕ → Ask) → List Ask → Type 0
Knows want [] = Unit {0}
Knows want (a ∷ asks) = (want a.node.0 ≡ a) × Knows want asks

-- what is so of one pass. It names what it may post and what it has cleared, until it takes the parent; it has the right to take a
-- domain's members where it owes, has taken or has cleared one
pub record Fine {K T : Type 0} (k : Kind T) (want : ℕ → Ask) (of : List ℕ) (v : View K) : Type 0 where
  pub table : (v.table ≡ []) ⊎ (v.table ≡ of)
  pub named : Knows want v.named
  pub turned : Knows want v.turns
  pub held : Knows want v.holds
  pub names : (d : ℕ) → d < k.count → tally rights d v + tally clears d v ≤ tally names d v
  pub last : (d : ℕ) → 0 < d → d < k.count → tally owes d v + tally takes d v + tally clears d v ≤ tally lasts (k.up d) v

abbrev pub fresh_of : List ℕ → ℕ
fresh_of [] = 1
fresh_of (x ∷ xs) = 0

-- ---- cells at home

-- the ticket names the domain with its ask, and is of this table
pub record Ticketed {K T : Type 0} (key : K) (of : List ℕ) (a : Ask) (c : Cell K T) : Type 0 where
  pub views : c.ticket.views ≡ naming (Some key) of a ∷ []
  pub table : name_of c.ticket.table_id ≡ of

-- an empty list with capacity for so many
pub record IsSpareList {T : Type 0} (n : ℕ) (list : List T) (capacity : ℕ) : Type 0 where
  pub bare : list ≡ []
  pub room : n ≤ capacity

abbrev pub Slot : Type 0 → Type 0 → Type 0
Slot K T = Maybe (Maybe (Option (Cell K T)))

-- a state is at home, answers the ask and has its ticket
pub record Keeps {K T : Type 0} (key : K) (table : List ℕ) (a : Ask) (Answers : Ask → T → Type 0) (h : Slot K T) : Type 0 where
  pub cell : Cell K T
  pub home : h ≡ some (some (Some cell))
  pub answers : Answers a cell.state
  pub ticket : Ticketed key table a cell

-- the same of a state that waits at a group: it says what is wanted of each member
pub record Waiting {K T : Type 0} (k : Kind T) (key : K) (table : List ℕ) (want : ℕ → Ask) (d : ℕ) (g : List ℕ) (h : Slot K T) : Type 0 where
  pub cell : Cell K T
  pub home : h ≡ some (some (Some cell))
  pub answers : k.Waits (want d) cell.state
  pub ticket : Ticketed key table (want d) cell
  pub group : k.group cell.state ≡ g
  pub asks : (m : ℕ) → 0 < often m g → want m ≡ k.asks cell.state m
  pub list : IsSpareList (length g) cell.list.items (vec_capacity cell.list)

abbrev pub Has : {K T : Type 0} → Kind T → K → List ℕ → (ℕ → Ask) → ℕ → List ℕ → Content → Slot K T → Type 0
Has k key table want d g nothing h = h ≡ some (some None)
Has k key table want d g away h = h ≡ some none
Has k key table want d g fresh h = Keeps key table (want d) k.Ready h
Has k key table want d g waits h = Waiting k key table want d g h
Has k key table want d g ended h = Keeps key table (want d) k.Ended h

abbrev pub Homes : {K T : Type 0} → Kind T → K → List ℕ → (ℕ → Ask) → (ℕ → List ℕ) → (ℕ → Where) → List (Maybe (Option (Cell K T))) → Type 0
Homes k key table want group place homes =
    (d : ℕ) → d < k.count → (Has k key table want d (group d) (content (place d)) (get_elem? homes d)) × ((want d).node.0 ≡ d)

-- ---- the rule

pub record Ordered {K T : Type 0} (k : Kind T) (key : K) (s : State (Option (Cell K T)) (View K)) : Type 0 where
  pub lawful : Lawful k
  pub place : ℕ → Where
  pub times : ℕ → ℕ
  pub group : ℕ → List ℕ
  pub want : ℕ → Ask
  pub table : List ℕ
  pub words : length s.words ≡ 2 * k.count + 2
  pub slots : length s.homes ≡ k.count
  pub counts : Counts k.count place times s.views
  pub phases : Phases k.count place s.words
  pub groups : Groups k place group s.words
  pub root : Rooted (place 0) (times 0) (slice_index s.words (root_at k.count))
  pub asked : want 0 ≡ k.root
  pub homes : Homes k key table want group place s.homes
  pub fine : (j : ℕ) (v : View K) → get_elem? s.views j ≡ some v → Fine k want table v
  pub stop : slice_index s.words 0 ≡ stop_of (total (λ v. v.stops) s.views)
  pub fresh : total (λ v. v.fresh) s.views ≡ fresh_of table
