-- Faults in order by domain, begin and point, and what a script and that order have in common.
use Rattle.std.specs.Prelude.{◌≡◌, ℕ, ◌<◌, ◌≤◌, Bool, false, ◌&&◌, ◌||◌, nat_lt, ◌==◌, List, [], length, slice_index_or}
use Rattle.cd_tree.specs.declared.domain.NodeId.{NodeId}
use Rattle.cd_tree.specs.declared.document.Fault.{Fault}
use Rattle.cd_tree.specs.Scripts.{struck}

-- the order of three numbers and three others: by the first of them that differ
abbrev pub is_earlier : ℕ → ℕ → ℕ → ℕ → ℕ → ℕ → Bool
is_earlier n b p m c q = nat_lt n m || ((n == m) && (nat_lt b c || ((b == c) && nat_lt p q)))

-- a fault strikes before this point of this begin of this domain
abbrev pub strikes_before : NodeId → ℕ → ℕ → Fault → Bool
strikes_before id begin point fault = is_earlier fault.node.0 fault.begin fault.item id.0 begin point

-- no fault strikes before one that stands in front of it
pub record IsInFaultOrder (faults : List Fault) : Type 0 where
  pub rising : (i j : ℕ) (d : Fault) → i ≤ j → j < length faults
      → is_earlier (slice_index_or faults j d).node.0 (slice_index_or faults j d).begin (slice_index_or faults j d).item
      (slice_index_or faults i d).node.0 (slice_index_or faults i d).begin (slice_index_or faults i d).item ≡ false

-- at each point the same faults strike, in the same order
pub record StrikeAlike (script order : List Fault) : Type 0 where
  pub each : (id : NodeId) (begin point : ℕ) → struck order id begin point ≡ struck script id begin point

-- no fault strikes at this begin of this domain
pub record IsCalm (script : List Fault) (id : NodeId) (begin : ℕ) : Type 0 where
  pub none : (point : ℕ) → struck script id begin point ≡ []
