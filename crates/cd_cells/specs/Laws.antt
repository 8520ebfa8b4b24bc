-- Laws that follow from the rule: how often a domain is posted, claimed and arrives; the root's right; hands; asks.
use Rattle.std.specs.Prelude.{◌≡◌, ℕ, ◌+◌, ◌<◌, ◌≤◌, ◌==◌, ◌⊎◌, Option, Some, slice_index}
use mathlib.Core.Option.{some, none}
use lib.ListN.{get_elem?}
use Rattle.atomic_table.specs.Table.{State}
use Rattle.cd_cells.specs.Asks.{Ask}
use Rattle.cd_cells.specs.declared.view.View.{View}
use Rattle.cd_cells.specs.declared.view.Cell.{Cell}
use Rattle.cd_cells.specs.Places.{Sort}
use Rattle.cd_cells.specs.Places.Sort.{rights, turns, holds, shuts, lasts, owes, takes, clears, names, posts, claims, arrives}
use Rattle.cd_cells.specs.Listing.{one_if, often, total, find}
use Rattle.cd_cells.specs.Kinds.{Kind}
use Rattle.cd_cells.specs.Views.{tally}
use Rattle.cd_cells.specs.Rule.{phase_at, count_at, Ordered}

-- how often all passes together list a domain
abbrev pub all_of : {K T : Type 0} → Sort → ℕ → State (Option (Cell K T)) (View K) → ℕ
all_of q d s = total (tally q d) s.views

-- a domain is at home with a state that answers an ask of it as waiting
pub record RestsAt {K T : Type 0} (k : Kind T) (s : State (Option (Cell K T)) (View K)) (d : ℕ) : Type 0 where
  pub cell : Cell K T
  pub ask : Ask
  pub home : get_elem? s.homes d ≡ some (some (Some cell))
  pub node : ask.node.0 ≡ d
  pub waits : k.Waits ask cell.state

-- the claims of a domain are its posts, less one exactly where its phase word is 2; its arrivals are its claims, less one exactly
-- where its cell is in the hand of a pass to go on with, or rests at home
pub record CountsOf {K T : Type 0} (k : Kind T) (s : State (Option (Cell K T)) (View K)) (d : ℕ) : Type 0 where
  pub resting : ℕ
  pub posted : all_of posts d s ≡ all_of claims d s + one_if (slice_index s.words (phase_at d) == 2)
  pub claimed : all_of claims d s ≡ all_of arrives d s + all_of holds d s + resting
  pub rests : (resting ≡ 0) ⊎ ((resting ≡ 1) × RestsAt k s d)
  pub one : all_of holds d s + resting ≤ 1

abbrev pub CountsAgree : {K T : Type 0} → (K → Kind T) → Type 0
CountsAgree {K} {T} kind = (key : K) (s : State (Option (Cell K T)) (View K)) → Ordered (kind key) key s → (d : ℕ) → d < (kind key).count → CountsOf (kind key) s d

-- so a domain is claimed at most once for each time that it is posted, and arrives at most once for each claim
pub record Bounded (arrivals claimed posted : ℕ) : Type 0 where
  pub claim : claimed ≤ posted
  pub arrival : arrivals ≤ claimed
  pub post : posted ≤ arrivals + 1

abbrev pub ClaimedOnce : {K T : Type 0} → (K → Kind T) → Type 0
ClaimedOnce {K} {T} kind = (key : K) (s : State (Option (Cell K T)) (View K)) → Ordered (kind key) key s → (d : ℕ) → d < (kind key).count
    → Bounded (all_of arrives d s) (all_of claims d s) (all_of posts d s)

-- the root is posted once: before, one pass has the right to post it or has it in hand to be posted, and afterwards none
abbrev pub RootOnce : {K T : Type 0} → (K → Kind T) → Type 0
RootOnce {K} {T} kind = (key : K) (s : State (Option (Cell K T)) (View K)) → Ordered (kind key) key s → all_of rights 0 s + all_of turns 0 s + all_of posts 0 s ≡ 1

-- a cell that is not at home is in the hand of one pass, and one at home is in none's
abbrev pub in_hands : {K T : Type 0} → ℕ → State (Option (Cell K T)) (View K) → ℕ
in_hands d s = all_of turns d s + all_of holds d s + all_of takes d s + all_of shuts d s

pub record Handed {K T : Type 0} (s : State (Option (Cell K T)) (View K)) (d : ℕ) : Type 0 where
  pub away : get_elem? s.homes d ≡ some none → in_hands d s ≡ 1
  pub home : (o : Option (Cell K T)) → get_elem? s.homes d ≡ some (some o) → in_hands d s ≡ 0

abbrev pub OneHand : {K T : Type 0} → (K → Kind T) → Type 0
OneHand {K} {T} kind = (key : K) (s : State (Option (Cell K T)) (View K)) → Ordered (kind key) key s → (d : ℕ) → d < (kind key).count → Handed s d

-- a pass that names the root names it with the root's ask; where one names another domain, the cell of its parent is at home and waits
-- at a group of which it is a member, and the ask is what the parent's state asks of it. No other pass names it
pub record AsksIn {K T : Type 0} (k : Kind T) (s : State (Option (Cell K T)) (View K)) (v : View K) (d : ℕ) : Type 0 where
  pub alone : all_of names d s ≡ 1
  pub root : d ≡ 0 → find d v.named ≡ k.root
  pub member : 0 < d → (c : Cell K T) × (get_elem? s.homes (k.up d) ≡ some (some (Some c))) × (0 < often d (k.group c.state)) × (find d v.named ≡ k.asks c.state d)

abbrev pub AsksOfParents : {K T : Type 0} → (K → Kind T) → Type 0
AsksOfParents {K} {T} kind = (key : K) (s : State (Option (Cell K T)) (View K)) → Ordered (kind key) key s
    → (j : ℕ) (v : View K) → get_elem? s.views j ≡ some v → (d : ℕ) → d < (kind key).count → 0 < tally names d v → AsksIn (kind key) s v d

-- the pass that may take the members of a domain has each of them: it owes its taking, has it in hand, or has cleared it and names it
pub record HasMember {K T : Type 0} (s : State (Option (Cell K T)) (View K)) (v : View K) (m : ℕ) : Type 0 where
  pub has : tally owes m v + tally takes m v + tally clears m v ≡ 1
  pub named : tally clears m v ≤ tally names m v
  pub alone : all_of owes m s + all_of takes m s + all_of clears m s ≡ 1

abbrev pub LastHasAll : {K T : Type 0} → (K → Kind T) → Type 0
LastHasAll {K} {T} kind = (key : K) (s : State (Option (Cell K T)) (View K)) → Ordered (kind key) key s
    → (j : ℕ) (v : View K) → get_elem? s.views j ≡ some v → (p : ℕ) → p < (kind key).count → 0 < tally lasts p v
    → (all_of lasts p s ≡ 1) × (slice_index s.words (count_at p) ≡ 0)
    × ((c : Cell K T) × (get_elem? s.homes p ≡ some (some (Some c))) × ((m : ℕ) → 0 < often m ((kind key).group c.state) → HasMember s v m))
