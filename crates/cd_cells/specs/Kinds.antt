-- What the rule knows of the states in the cells, and of the domains to which they belong.
use Rattle.std.specs.Prelude.{◌≡◌, ℕ, ◌<◌, List, length}
use Rattle.cd_cells.specs.Asks.{Ask}
use Rattle.cd_cells.specs.Listing.{often}

-- how many domains there are; the parent of each but the root; the group of its parent in which each is a member; the root's ask;
-- when a state answers an ask as ready, waiting and ended; and, of a waiting state, its group and what it asks of each member
pub record Kind (T : Type 0) : Type 1 where
  pub count : ℕ
  pub up : ℕ → ℕ
  pub siblings : ℕ → List ℕ
  pub root : Ask
  pub Ready : Ask → T → Type 0
  pub Waits : Ask → T → Type 0
  pub Ended : Ask → T → Type 0
  pub group : T → List ℕ
  pub asks : T → ℕ → Ask

-- m is a member, once, of a group of p
pub record IsMember {T : Type 0} (k : Kind T) (p : ℕ) (g : List ℕ) (m : ℕ) : Type 0 where
  pub above : 0 < m
  pub below : m < k.count
  pub parent : k.up m ≡ p
  pub once : often m g ≡ 1
  pub same : k.siblings m ≡ g

-- the siblings of a domain are the group of its parent in which it is a member
pub record IsGrouped {T : Type 0} (k : Kind T) (d : ℕ) : Type 0 where
  pub own : 0 < often d (k.siblings d)
  pub each : (m : ℕ) → 0 < often m (k.siblings d) → IsMember k (k.up d) (k.siblings d) m

-- what all this has to keep
pub record Lawful {T : Type 0} (k : Kind T) : Type 0 where
  pub some : 0 < k.count
  pub root : k.root.node.0 ≡ 0
  pub above : (m : ℕ) → 0 < m → m < k.count → k.up m < k.count
  pub length : (a : Ask) (t : T) → k.Waits a t → 0 < length (k.group t)
  pub group : (a : Ask) (t : T) → k.Waits a t → (m : ℕ) → 0 < often m (k.group t) → IsMember k a.node.0 (k.group t) m
  pub asks : (a : Ask) (t : T) → k.Waits a t → (m : ℕ) → 0 < often m (k.group t) → (k.asks t m).node.0 ≡ m
