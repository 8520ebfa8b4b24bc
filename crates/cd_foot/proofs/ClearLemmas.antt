-- Members that are clear of each other: what the passes over them keep, and that such members are apart.
use Rattle.std.proofs.Common.{◌≡◌, ℕ, zero, suc, ◌+◌, ◌-◌, ◌<◌, ◌≤◌, Bool, true, false, ◌&&◌, ◌||◌, List, [], ◌∷◌, length, drop, get_or, set, All, Option, Some, slice_get, refl, sym, ap, subst, ◌∙◌, inl, inr, arith}
use Rattle.std.specs.Option.{option_map_or}
use Rattle.std.proofs.lemmas.Bool.{cases_eq, or_from, or_left, or_right}
use Rattle.std.proofs.lemmas.List.{drop_more, drop_all}
use Rattle.std.proofs.lemmas.Option.{slice_get-get_or}
use Rattle.cd_base.specs.declared.place.Place.{Place}
use Rattle.cd_base.specs.declared.place.Range.{Range}
use Rattle.cd_base.specs.Words.{PlaceSet, in_range, in_ranges}
use Rattle.cd_base.proofs.BoolLemmas.{and-none}
use Rattle.cd_tree.specs.declared.domain.NodeId.{NodeId}
use Rattle.cd_tree.specs.declared.domain.Domain.{Domain}
use Rattle.cd_tree.specs.Domains.{Node, node_of, members_by}
use Rattle.cd_tree.specs.Meaning.{node_reach, node_writes, DoNotClash, IsApartFrom, MembersApart}
use Rattle.cd_tree.proofs.View.{members_by-found}
use Rattle.cd_foot.specs.declared.footprints.Foot.{Foot}
use Rattle.cd_foot.specs.declared.clear.Order.{Order}
use Rattle.cd_foot.specs.declared.clear.Order.TheVariants.{FromFirst, FromLast}
use Rattle.cd_foot.specs.Feet.{IsFoot, AreFeet}
use Rattle.cd_foot.specs.Clear.{writes_at, reach_at, Misses, Widens, turn, member_at, IsClear}
use Rattle.cd_foot.proofs.OverlapLemmas.{found_node}

-- ---- a range that holds others

abbrev no_range : Range
no_range = record { region = 0; low = 0; high = 0 }

-- one range more is held
pub next_holds : (so all ranges : List Range) (i : ℕ) (q : Place) → i < length ranges
    → ((in_ranges so q || in_range (get_or ranges i no_range) q) ≡ true → in_ranges all q ≡ true)
    → (in_ranges so q || in_ranges (drop i ranges) q) ≡ true → (in_ranges all q || in_ranges (drop (i + 1) ranges) q) ≡ true
next_holds so all ranges i q within holds left =
    by (in_ranges so q) (in_range (get_or ranges i no_range) q) (in_ranges (drop (i + 1) ranges) q) (in_ranges all q) holds
    (subst (λ (rs : List Range). (in_ranges so q || in_ranges rs q) ≡ true) (drop_more ranges i no_range within) left)
  where
    by : (a b c e : Bool) → ((a || b) ≡ true → e ≡ true) → (a || (b || c)) ≡ true → (e || c) ≡ true
    by true b c e h k = or_left e c (h refl)
    by false true c e h k = or_left e c (h refl)
    by false false c e h k = or_right e c k

-- one of the ranges is exchanged for one that holds it and another
pub set_holds : (xs : List Range) (k : ℕ) (r x : Range) (q : Place) → k < length xs
    → ((in_range (get_or xs k no_range) q || in_range r q) ≡ true → in_range x q ≡ true)
    → (in_ranges xs q || in_range r q) ≡ true → in_ranges (set xs k x) q ≡ true
set_holds [] k r x q within holds left = absurd (omega arith)
set_holds (y ∷ ys) zero r x q within holds left = by (in_range y q) (in_ranges ys q) (in_range r q) (in_range x q) holds left
  where
    by : (a b c e : Bool) → ((a || c) ≡ true → e ≡ true) → ((a || b) || c) ≡ true → (e || b) ≡ true
    by true b c e h k = or_left e b (h refl)
    by false true c e h k = or_right e true refl
    by false false c e h k = or_left e false (h k)
set_holds (y ∷ ys) (suc k) r x q within holds left =
    by (in_range y q) (in_ranges ys q) (in_range r q) (in_ranges (set ys k x) q) (set_holds ys k r x q (omega arith) holds) left
  where
    by : (a b c e : Bool) → ((b || c) ≡ true → e ≡ true) → ((a || b) || c) ≡ true → (a || e) ≡ true
    by true b c e h k = refl
    by false b c e h k = h k

-- no place of a set is in the ranges that are left, nor in one more
pub next_misses : (reach ranges : List Range) (i : ℕ) → i < length ranges
    → ((q : Place) → (in_ranges reach q && in_range (get_or ranges i no_range) q) ≡ false)
    → Misses (in_ranges (drop (i + 1) ranges)) reach → Misses (in_ranges (drop i ranges)) reach
next_misses reach ranges i within one rest q =
    subst (λ (rs : List Range). (in_ranges reach q && in_ranges rs q) ≡ false) (sym (drop_more ranges i no_range within))
    (by (in_ranges reach q) (in_range (get_or ranges i no_range) q) (in_ranges (drop (i + 1) ranges) q) (one q) (rest q))
  where
    by : (a b c : Bool) → (a && b) ≡ false → (a && c) ≡ false → (a && (b || c)) ≡ false
    by false b c h k = refl
    by true b c h k = or_from b c h k

-- none is left
pub none_misses : (reach ranges : List Range) (i : ℕ) → length ranges ≤ i → Misses (in_ranges (drop i ranges)) reach
none_misses reach ranges i past q =
    subst (λ (rs : List Range). (in_ranges reach q && in_ranges rs q) ≡ false) (sym (drop_all i ranges past)) (and-none (in_ranges reach q))

-- ---- a pass

-- ranges hold what the first so many members write, and none of them reaches what one before it writes
pub record ClearSo (feet : List Foot) (ids : List NodeId) (order : Order) (so : ℕ) (hulls : List Range) : Type 0 where
  pub holds : (j : ℕ) → j < so → (q : Place) → in_ranges (writes_at feet (member_at ids (turn order (length ids) j))) q ≡ true → in_ranges hulls q ≡ true
  pub misses : (j k : ℕ) → j < k → k < so
      → Misses (in_ranges (writes_at feet (member_at ids (turn order (length ids) j)))) (reach_at feet (member_at ids (turn order (length ids) k)))

pub clear_none : (feet : List Foot) (ids : List NodeId) (order : Order) (hulls : List Range) → ClearSo feet ids order 0 hulls
clear_none feet ids order hulls = record {
  holds = λ j below q in_it. absurd (omega arith);
  misses = λ j k before below q. absurd (omega arith);
}

smaller_misses : (places more : PlaceSet) (ranges : List Range) (q : Place) → (places q ≡ true → more q ≡ true) → (in_ranges ranges q && more q) ≡ false
    → (in_ranges ranges q && places q) ≡ false
smaller_misses places more ranges q holds none = by (in_ranges ranges q) (places q) (more q) holds none
  where
    by : (a b c : Bool) → (b ≡ true → c ≡ true) → (a && c) ≡ false → (a && b) ≡ false
    by false b c h none = refl
    by true false c h none = refl
    by true true c h none = sym (h refl) ∙ none

pub clear_more : (feet : List Foot) (ids : List NodeId) (order : Order) (so : ℕ) (hulls all : List Range)
    → Widens feet hulls (member_at ids (turn order (length ids) so)) all → ClearSo feet ids order so hulls → ClearSo feet ids order (so + 1) all
clear_more feet ids order so hulls all widens clear =
    let id_of : ℕ → NodeId = λ j. member_at ids (turn order (length ids) j) in
    record {
      holds = λ j below q in_it.
          elim (cases_eq j so) [
            | inl same ↦
                widens.holds q (or_right (in_ranges hulls q) (in_ranges (writes_at feet (id_of so)) q)
                (subst (λ (i : ℕ). in_ranges (writes_at feet (id_of i)) q ≡ true) same in_it))
            | inr other ↦
                widens.holds q (or_left (in_ranges hulls q) (in_ranges (writes_at feet (id_of so)) q) (clear.holds j (omega arith) q in_it))
          ];
      misses = λ j k before below q.
          elim (cases_eq k so) [
            | inl same ↦
                subst (λ (i : ℕ). (in_ranges (reach_at feet (id_of i)) q && in_ranges (writes_at feet (id_of j)) q) ≡ false) (sym same)
                (smaller_misses (in_ranges (writes_at feet (id_of j))) (in_ranges hulls) (reach_at feet (id_of so)) q
                (λ in_it. clear.holds j (omega arith) q in_it) (widens.misses q))
            | inr other ↦ clear.misses j k before (omega arith) q
          ];
    }

pub clear_all : (feet : List Foot) (ids : List NodeId) (order : Order) (so : ℕ) (hulls : List Range) → length ids ≤ so → ClearSo feet ids order so hulls
    → IsClear feet ids order
clear_all feet ids order so hulls past clear = record { misses = λ j k before below. clear.misses j k before (omega arith) }

-- ---- clear members are apart

-- neither of two domains reaches what the other writes
abbrev Clear : List Foot → NodeId → NodeId → Type 0
Clear feet one other =
    Misses (in_ranges (writes_at feet one)) (reach_at feet other) × Misses (in_ranges (writes_at feet other)) (reach_at feet one)

foot_there : (domains : List Domain) (feet : List Foot) (id : NodeId) (d : Node) → AreFeet domains feet → node_of domains id ≡ Some d
    → id.0 < length feet → (foot : Foot) × (slice_get feet id.0 ≡ Some foot) × IsFoot d foot
foot_there domains feet id d are found within =
    let there = slice_get-get_or feet id.0 (record { reads = []; writes = []; reach = [] }) within in
    (_, there, are.each id d _ found there)

writes_are : (feet : List Foot) (id : NodeId) (d : Node) (foot : Foot) → slice_get feet id.0 ≡ Some foot → IsFoot d foot → (p : Place)
    → in_ranges (writes_at feet id) p ≡ node_writes d p
writes_are feet id d foot there is p = ap (λ (o : Option Foot). in_ranges (option_map_or (λ foot. foot.writes) o []) p) there ∙ is.writes p

reach_is : (feet : List Foot) (id : NodeId) (d : Node) (foot : Foot) → slice_get feet id.0 ≡ Some foot → IsFoot d foot → (p : Place)
    → in_ranges (reach_at feet id) p ≡ node_reach d p
reach_is feet id d foot there is p = ap (λ (o : Option Foot). in_ranges (option_map_or (λ foot. foot.reach) o []) p) there ∙ is.reach p

turned : (a b x y : Bool) → a ≡ x → b ≡ y → (b && a) ≡ false → (x && y) ≡ false
turned false b x y e f none = sym (ap (λ (c : Bool). c && y) e)
turned true false x y e f none = sym (ap (λ (c : Bool). x && c) f) ∙ by x
  where
    by : (c : Bool) → (c && false) ≡ false
    by true = refl
    by false = refl
turned true true x y e f none = absurd (cc)

pair_apart : (domains : List Domain) (feet : List Foot) (one other : NodeId) (d e : Node) → AreFeet domains feet
    → node_of domains one ≡ Some d → node_of domains other ≡ Some e → one.0 < length feet → other.0 < length feet
    → Clear feet one other → DoNotClash d e
pair_apart domains feet one other d e are found here within there clear p =
    let first = foot_there domains feet one d are found within in
    let second = foot_there domains feet other e are here there in
    or_from (node_writes d p && node_reach e p) (node_writes e p && node_reach d p)
    (turned (in_ranges (writes_at feet one) p) (in_ranges (reach_at feet other) p) (node_writes d p) (node_reach e p)
    (writes_are feet one d first.0 first.1 first.2 p) (reach_is feet other e second.0 second.1 second.2 p) (clear.0 p))
    (turned (in_ranges (writes_at feet other) p) (in_ranges (reach_at feet one) p) (node_writes e p) (node_reach d p)
    (writes_are feet other e second.0 second.1 second.2 p) (reach_is feet one d first.0 first.1 first.2 p) (clear.1 p))

one_apart : (domains : List Domain) (feet : List Foot) (one : NodeId) (d : Node) (ids : List NodeId) → AreFeet domains feet
    → node_of domains one ≡ Some d → one.0 < length feet → All (λ (id : NodeId). id.0 < length feet) ids
    → ((k : ℕ) → k < length ids → Clear feet one (member_at ids k)) → IsApartFrom d (members_by (node_of domains) ids)
one_apart domains feet one d [] are found within all clear = tt
one_apart domains feet one d (id ∷ ids) are found within all clear =
    let size = are.size in
    let there : id.0 < length feet = all 0 id (omega arith) in
    let next = found_node domains id (omega (arith, size, there)) in
    subst (IsApartFrom d) (sym (members_by-found (node_of domains) id ids next.0 next.1)) (
      pair_apart domains feet one id d next.0 are found next.1 within there (clear 0 (omega arith)),
      one_apart domains feet one d ids are found within (λ k e short. all (suc k) e (omega arith)) (λ k short. clear (suc k) (omega arith)),
    )

each_apart : (domains : List Domain) (feet : List Foot) (ids : List NodeId) → AreFeet domains feet → All (λ (id : NodeId). id.0 < length feet) ids
    → ((j k : ℕ) → j < k → k < length ids → Clear feet (member_at ids j) (member_at ids k)) → MembersApart (members_by (node_of domains) ids)
each_apart domains feet [] are all clear = tt
each_apart domains feet (id ∷ ids) are all clear =
    let size = are.size in
    let there : id.0 < length feet = all 0 id (omega arith) in
    let next = found_node domains id (omega (arith, size, there)) in
    subst MembersApart (sym (members_by-found (node_of domains) id ids next.0 next.1)) (
      one_apart domains feet id next.0 ids are next.1 there (λ k e short. all (suc k) e (omega arith)) (λ k short. clear 0 (suc k) (omega arith) (omega arith)),
      each_apart domains feet ids are (λ k e short. all (suc k) e (omega arith)) (λ j k before short. clear (suc j) (suc k) (omega arith) (omega arith)),
    )

from_last : (count j : ℕ) → j < count → turn FromLast count (count - 1 - j) ≡ j
from_last count j within = omega arith

pub clear_apart : (domains : List Domain) (feet : List Foot) (ids : List NodeId) → AreFeet domains feet → All (λ (id : NodeId). id.0 < length feet) ids
    → IsClear feet ids FromFirst → IsClear feet ids FromLast → MembersApart (members_by (node_of domains) ids)
clear_apart domains feet ids are all forward back =
    let count : ℕ = length ids in
    each_apart domains feet ids are all (λ j k before short. (
      forward.misses j k before short,
      subst (λ (i : ℕ). Misses (in_ranges (writes_at feet (member_at ids k))) (reach_at feet (member_at ids i))) (from_last count j (omega arith))
          (subst (λ (i : ℕ). Misses (in_ranges (writes_at feet (member_at ids i))) (reach_at feet (member_at ids (turn FromLast count (count - 1 - j)))))
          (from_last count k short) (back.misses (count - 1 - k) (count - 1 - j) (omega arith) (omega arith))),
    ))
