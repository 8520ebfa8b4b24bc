-- Faults in order: what a stable sort gives, and where those of one point stand.
use Rattle.std.proofs.Common.{◌≡◌, ℕ, zero, suc, ◌+◌, ◌<◌, ◌≤◌, Bool, true, false, not, ◌&&◌, ◌==◌, List, [], ◌∷◌, length, take, drop, filter, get_or, refl, ap, sym, subst, ◌∙◌, arith, inl, inr}
use Rattle.std.proofs.Math.Path.{fun_ext}
use Rattle.std.proofs.lemmas.Bool.{cond-true, cond-false, cases_lt}
use Rattle.std.proofs.lemmas.Bool.Decides.{nat_tests}
use Rattle.std.proofs.lemmas.List.{get_or-drop, get_or_default, length-drop}
use Rattle.std.proofs.lemmas.List.Sorted.{ranks_by, sorted_far}
use Rattle.std.proofs.lemmas.Cmp.{nat_cmp_total, on_total, then_total}
use Rattle.std.specs.declared.cmp.Ordering.{Ordering}
use Rattle.std.specs.Ordering.{nat_cmp, ordering_then, is_lt}
use Rattle.std.specs.Cmp.{IsTotalOrder}
use Rattle.std.specs.List.Sorted.{IsSortedByKey, IsStableByKey, IsPartitionedBy, IsPartitionPoint, ties}
use Rattle.cd_tree.specs.declared.domain.NodeId.{NodeId}
use Rattle.cd_tree.specs.declared.document.Fault.{Fault}
use Rattle.cd_tree.specs.Scripts.{strikes_at, struck}
use Rattle.cd_field.proofs.StrikeLemmas.{no_fault}
use Rattle.cd_field.specs.FaultOrder.{is_earlier, strikes_before, IsInFaultOrder, StrikeAlike, IsCalm}

-- ---- the key

abbrev pub key_of : Fault → ℕ × ℕ × ℕ
key_of fault = (fault.node.0, fault.begin, fault.item)

abbrev pub key_cmp : (ℕ × ℕ × ℕ) → (ℕ × ℕ × ℕ) → Ordering
key_cmp x y = ordering_then (ordering_then (nat_cmp x.0 y.0) (nat_cmp x.1 y.1)) (nat_cmp x.2 y.2)

key_total : IsTotalOrder key_cmp
key_total =
    then_total (then_total (on_total (λ (x : ℕ × ℕ × ℕ). x.0) nat_cmp_total) (on_total (λ (x : ℕ × ℕ × ℕ). x.1) nat_cmp_total))
    (on_total (λ (x : ℕ × ℕ × ℕ). x.2) nat_cmp_total)

earlier_is : (n b p m c q : ℕ) → is_lt (ordering_then (ordering_then (nat_cmp n m) (nat_cmp b c)) (nat_cmp p q)) ≡ is_earlier n b p m c q
earlier_is n b p m c q = grind (arith, nat_tests)

pub order_from_sort : (ys : List Fault) → IsSortedByKey key_of key_cmp ys → IsInFaultOrder ys
order_from_sort ys up = record {
  rising = λ i j d at short.
      let f : Fault = get_or ys j d in
      let g : Fault = get_or ys i d in
      sym (earlier_is f.node.0 f.begin f.item g.node.0 g.begin g.item)
      ∙ sorted_far (λ (x : Fault) (y : Fault). is_lt (key_cmp (key_of x) (key_of y))) (ranks_by key_total key_of) ys up i j d at short;
}

-- ---- faults that tie are those of one point

neither_earlier : (n b p m c q : ℕ) → (not (is_earlier n b p m c q) && not (is_earlier m c q n b p)) ≡ ((m == n) && (c == b) && (q == p))
neither_earlier n b p m c q = grind (arith, nat_tests)

abbrev point_fault : NodeId → ℕ → ℕ → Fault
point_fault id begin point = record {
  node = id;
  begin = begin;
  item = point;
  kind = record { 0 = 0 };
  place = record { region = 0; index = 0 };
  mask = 0;
}

abbrev is_less : Fault → Fault → Bool
is_less x y = is_lt (key_cmp (key_of x) (key_of y))

ties_are : (id : NodeId) (begin point : ℕ) (fault : Fault) → ties is_less (point_fault id begin point) fault ≡ strikes_at id begin point fault
ties_are id begin point fault =
    ap (λ (b : Bool). not b && not (is_less fault (point_fault id begin point)))
    (earlier_is id.0 begin point fault.node.0 fault.begin fault.item)
    ∙ ap (λ (b : Bool). not (is_earlier id.0 begin point fault.node.0 fault.begin fault.item) && not b)
    (earlier_is fault.node.0 fault.begin fault.item id.0 begin point)
    ∙ neither_earlier id.0 begin point fault.node.0 fault.begin fault.item

pub alike_from_sort : (xs ys : List Fault) → IsStableByKey key_of key_cmp xs ys → StrikeAlike xs ys
alike_from_sort xs ys stable = record {
  each = λ id begin point.
      let same : ties is_less (point_fault id begin point) ≡ strikes_at id begin point = fun_ext (ties_are id begin point) in
      ap (λ (t : Fault → Bool). filter t ys) (sym same) ∙ stable (point_fault id begin point) ∙ ap (λ (t : Fault → Bool). filter t xs) same;
}

-- ---- a run of a list that a filter gives

pub filter_none : {X : Type 0} (p : X → Bool) (xs : List X) → ((k : ℕ) (d : X) → k < length xs → p (get_or xs k d) ≡ false) → filter p xs ≡ []
filter_none {X} p [] each = refl
filter_none {X} p (x ∷ xs) each =
    cond-false (p x) (x ∷ filter p xs) (filter p xs) (each 0 x (omega arith)) ∙ filter_none p xs (λ k d short. each (suc k) d (omega arith))

filter_first : {X : Type 0} (p : X → Bool) (xs : List X) (n : ℕ) → n ≤ length xs → ((k : ℕ) (d : X) → k < n → p (get_or xs k d) ≡ true)
    → ((k : ℕ) (d : X) → n ≤ k → k < length xs → p (get_or xs k d) ≡ false) → take n xs ≡ filter p xs
filter_first {X} p xs zero short pass fail = sym (filter_none p xs (λ k d within. fail k d (omega arith) within))
filter_first {X} p [] (suc n) short pass fail = absurd (omega arith)
filter_first {X} p (x ∷ xs) (suc n) short pass fail =
    ap (λ (v : List X). x ∷ v)
    (filter_first p xs n (omega arith) (λ k d before. pass (suc k) d (omega arith)) (λ k d behind within. fail (suc k) d (omega arith) (omega arith)))
    ∙ sym (cond-true (p x) (x ∷ filter p xs) (filter p xs) (pass 0 x (omega arith)))

-- the elements from a on, n of them, and no others pass the test
pub filter_run : {X : Type 0} (p : X → Bool) (xs : List X) (a n : ℕ) → n ≤ length (drop a xs)
    → ((k : ℕ) (d : X) → k < a → k < length xs → p (get_or xs k d) ≡ false)
    → ((k : ℕ) (d : X) → k < n → p (get_or (drop a xs) k d) ≡ true)
    → ((k : ℕ) (d : X) → n ≤ k → k < length (drop a xs) → p (get_or (drop a xs) k d) ≡ false) → take n (drop a xs) ≡ filter p xs
filter_run {X} p xs zero n short before pass fail = filter_first p xs n short pass fail
filter_run {X} p [] (suc a) n short before pass fail = filter_first p [] n short pass fail
filter_run {X} p (x ∷ xs) (suc a) n short before pass fail =
    filter_run p xs a n short (λ k d at within. before (suc k) d (omega arith) (omega arith)) pass fail
    ∙ sym (cond-false (p x) (x ∷ filter p xs) (filter p xs) (before 0 x (omega arith) (omega arith)))

-- ---- those of a point

strikes_says : (a i s n b p : ℕ) → ((a == n) && (i == b) && (s == p)) ≡ true → (a ≡ n) × (i ≡ b) × (s ≡ p)
strikes_says a i s n b p e = (grind (arith, nat_tests), grind (arith, nat_tests), grind (arith, nat_tests))

before_misses : (a i s n b p : ℕ) → is_earlier a i s n b p ≡ true → ((a == n) && (i == b) && (s == p)) ≡ false
before_misses a i s n b p e = grind (arith, nat_tests)

earlier_chain : (n b p m c q a i s : ℕ) → is_earlier n b p m c q ≡ false → is_earlier n b p a i s ≡ true → is_earlier m c q a i s ≡ true
earlier_chain n b p m c q a i s e f = grind (arith, nat_tests)

-- a fault that does not strike before a point, nor one behind it that does at it: it strikes there too
between : (a i s n b p : ℕ) (m c q : ℕ) → is_earlier m c q a i s ≡ false → is_earlier a i s n b p ≡ false → (m ≡ n) → (c ≡ b) → (q ≡ p)
    → ((a == n) && (i == b) && (s == p)) ≡ true
between a i s n b p m c q e f x y z = grind (arith, nat_tests)

-- the test whether faults strike before a point is true of the first of them
pub before_first : (order : List Fault) (id : NodeId) (begin point : ℕ) → IsInFaultOrder order → IsPartitionedBy (strikes_before id begin point) order
before_first order id begin point sorted i j d at short e =
    let f : Fault = get_or order j d in
    let g : Fault = get_or order i d in
    earlier_chain f.node.0 f.begin f.item g.node.0 g.begin g.item id.0 begin point (sorted.rising i j d at short) e

-- no fault from an index on strikes before a point
abbrev pub NoneBefore : List Fault → ℕ → NodeId → ℕ → ℕ → Type 0
NoneBefore order first id begin point = (k : ℕ) (d : Fault) → first ≤ k → k < length order → strikes_before id begin point (get_or order k d) ≡ false

-- those that strike at the point stand first among them
pub at_first : (order : List Fault) (id : NodeId) (begin point first : ℕ) → IsInFaultOrder order → NoneBefore order first id begin point
    → IsPartitionedBy (strikes_at id begin point) (drop first order)
at_first order id begin point first sorted from i j d at short e =
    let P : Fault → Type 0 = λ v. strikes_at id begin point v ≡ true in
    let f : Fault = get_or order (first + j) d in
    let g : Fault = get_or order (first + i) d in
    let within : first + j < length order = omega (arith, short, length-drop first order) in
    let s : (f.node.0 ≡ id.0) × (f.begin ≡ begin) × (f.item ≡ point) =
    strikes_says f.node.0 f.begin f.item id.0 begin point (subst P (get_or-drop first order j d) e) in
    subst P (sym (get_or-drop first order i d))
    (between g.node.0 g.begin g.item id.0 begin point f.node.0 f.begin f.item
    (sorted.rising (first + i) (first + j) d (omega arith) within) (from (first + i) d (omega arith) (omega arith)) s.0 s.1 s.2)

pub hits_are : (order : List Fault) (id : NodeId) (begin point first count : ℕ)
    → IsPartitionPoint (λ fault. strikes_before id begin point fault ≡ true) (λ fault. strikes_before id begin point fault ≡ false) order first
    → count ≤ length (drop first order)
    → IsPartitionPoint (λ fault. strikes_at id begin point fault ≡ true) (λ fault. strikes_at id begin point fault ≡ false) (drop first order) count
    → take count (drop first order) ≡ struck order id begin point
hits_are order id begin point first count split short here =
    filter_run (strikes_at id begin point) order first count short
    (λ k d before within. let f : Fault = get_or order k d in
    before_misses f.node.0 f.begin f.item id.0 begin point (split.0 k d (omega arith) before))
    (λ k d before. here.0 k d (omega arith) before)
    (λ k d behind within. here.1 k d behind within)

-- ---- a begin without faults

-- the first that does not strike before a begin is of another, or there is none
abbrev pub IsOfOther : List Fault → ℕ → NodeId → ℕ → Type 0
IsOfOther order first id begin =
    first < length order → (((get_or order first no_fault).node.0 == id.0) && ((get_or order first no_fault).begin == begin)) ≡ false

calm_fault : (a i s n b p : ℕ) (m c q : ℕ) → is_earlier a i s m c q ≡ false → is_earlier m c q n b 0 ≡ false → ((m == n) && (c == b)) ≡ false
    → ((a == n) && (i == b) && (s == p)) ≡ false
calm_fault a i s n b p m c q e f g = grind (arith, nat_tests)

calm_before : (a i s n b p : ℕ) → is_earlier a i s n b 0 ≡ true → ((a == n) && (i == b) && (s == p)) ≡ false
calm_before a i s n b p e = grind (arith, nat_tests)

pub calm_from : (order : List Fault) (id : NodeId) (begin first : ℕ) → IsInFaultOrder order
    → IsPartitionPoint (λ fault. strikes_before id begin 0 fault ≡ true) (λ fault. strikes_before id begin 0 fault ≡ false) order first
    → IsOfOther order first id begin → IsCalm order id begin
calm_from order id begin first sorted split other = record {
  none = λ point. filter_none (strikes_at id begin point) order (λ k d within.
      let f : Fault = get_or order k no_fault in
      let g : Fault = get_or order first no_fault in
      let P : Fault → Type 0 = λ v. strikes_at id begin point v ≡ false in
      subst P (get_or_default order k no_fault d within)
      (elim (cases_lt k first) [
        | inl l ↦ calm_before f.node.0 f.begin f.item id.0 begin point (split.0 k no_fault (omega arith) l)
        | inr l ↦
            let there : first < length order = omega arith in
            calm_fault f.node.0 f.begin f.item id.0 begin point g.node.0 g.begin g.item
            (sorted.rising first k no_fault l within) (split.1 first no_fault (omega arith) there) (other there)
      ]));
}

-- where the order has none, the script has none
pub calm_script : (script order : List Fault) (id : NodeId) (begin : ℕ) → StrikeAlike script order → IsCalm order id begin → IsCalm script id begin
calm_script script order id begin alike calm = record { none = λ point. sym (alike.each id begin point) ∙ calm.none point }
