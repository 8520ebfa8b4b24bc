-- The potential of a script under counts: how many of its entries can still strike at a begin that is to come.
use Rattle.std.proofs.Common.{◌≡◌, ℕ, suc, ◌+◌, ◌≤◌, Bool, true, false, cond, ◌&&◌, ◌==◌, nat_lt, nat_le, if◌then◌else◌, List, [], ◌∷◌, length, ap, arith}
use Rattle.std.proofs.lemmas.Bool.Decides.{nat_tests}
use Rattle.cd_tree.specs.declared.domain.NodeId.{NodeId}
use Rattle.cd_tree.specs.declared.document.Fault.{Fault}
use Rattle.cd_tree.specs.Scripts.{strikes_at, struck}
use Rattle.cd_tree.specs.Reading.{Counts, counted}

-- how many entries name a begin above their domain's count
abbrev pub potential : List Fault → Counts → ℕ
potential [] counts = 0
potential (fault ∷ faults) counts = cond (nat_lt (counts fault.node.0) fault.begin) 1 0 + potential faults counts

-- whether a fault strikes at this begin of this domain, at this point or a later one
abbrev pub is_due : NodeId → ℕ → ℕ → Fault → Bool
is_due id begin point fault = (fault.node.0 == id.0) && (fault.begin == begin) && nat_le point fault.item

-- how many faults do so
abbrev pub due : List Fault → NodeId → ℕ → ℕ → ℕ
due [] id begin point = 0
due (fault ∷ faults) id begin point = cond (is_due id begin point fault) 1 0 + due faults id begin point

-- the potential is at most the number of entries
pub potential-le : (faults : List Fault) (counts : Counts) → potential faults counts ≤ length faults
potential-le [] counts = omega arith
potential-le (fault ∷ faults) counts =
    let rest : potential faults counts ≤ length faults = potential-le faults counts in
    let one : cond (nat_lt (counts fault.node.0) fault.begin) 1 0 ≤ 1 = at_most_one (nat_lt (counts fault.node.0) fault.begin) in
    omega arith
  where
    at_most_one : (b : Bool) → cond b 1 0 ≤ 1
    at_most_one true = omega arith
    at_most_one false = omega arith

-- an entry that strikes at a point is no longer due behind it
one_strike : (n d b a i k : ℕ) →
    cond ((n == d) && (b == a) && (i == k)) 1 0 + cond ((n == d) && (b == a) && nat_le (suc k) i) 1 0
    ≤ cond ((n == d) && (b == a) && nat_le k i) 1 0
one_strike n d b a i k = grind (arith, nat_tests)

struck-more : (b : Bool) (fault : Fault) (faults : List Fault) → length (cond b (fault ∷ faults) faults) ≡ cond b 1 0 + length faults
struck-more true fault faults = omega arith
struck-more false fault faults = omega arith

-- the faults that strike at a point, and those still due behind it, were due at the point
pub due_at_point : (faults : List Fault) (id : NodeId) (begin point : ℕ) →
    length (struck faults id begin point) + due faults id begin (suc point) ≤ due faults id begin point
due_at_point [] id begin point = omega arith
due_at_point (fault ∷ faults) id begin point =
    let one = one_strike fault.node.0 id.0 fault.begin begin fault.item point in
    let rest : length (struck faults id begin point) + due faults id begin (suc point) ≤ due faults id begin point =
    due_at_point faults id begin point in
    let more = struck-more (strikes_at id begin point fault) fault (struck faults id begin point) in
    omega arith

-- what a begin takes out of the potential is due in its try
one_begin : (n d b i now of : ℕ) → (n ≡ d → now ≡ of) →
    cond ((n == d) && (b == of + 1) && nat_le 0 i) 1 0 + cond (nat_lt (if n == d then now + 1 else now) b) 1 0
    ≤ cond (nat_lt now b) 1 0
one_begin n d b i now of same = grind (arith, nat_tests)

pub due_at_begin : (faults : List Fault) (id : NodeId) (counts : Counts) →
    due faults id (counts id.0 + 1) 0 + potential faults (counted id.0 counts) ≤ potential faults counts
due_at_begin [] id counts = omega arith
due_at_begin (fault ∷ faults) id counts =
    let one = one_begin fault.node.0 id.0 fault.begin fault.item (counts fault.node.0) (counts id.0) (ap counts) in
    let rest : due faults id (counts id.0 + 1) 0 + potential faults (counted id.0 counts) ≤ potential faults counts =
    due_at_begin faults id counts in
    omega arith
