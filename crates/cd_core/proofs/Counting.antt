-- The counts of members that came back, put into those of their domain, are the counts after their group.
use Rattle.std.proofs.Common.{◌≡◌, ℕ, zero, suc, ◌+◌, ◌-◌, ◌<◌, ◌≤◌, ◌==◌, true, false, List, [], ◌∷◌, ◌++◌, length, map, take, drop, refl, ap, subst, sym, ◌∙◌, append_assoc, arith}
use Rattle.std.proofs.lemmas.Bool.Decides.{nat_tests}
use Rattle.std.proofs.lemmas.List.{length-append, length-map, map-append, take_at, drop_at}
use Rattle.cd_base.specs.Words.{Words}
use Rattle.cd_tree.specs.declared.domain.NodeId.{NodeId}
use Rattle.cd_tree.specs.CountLaws.{AgreeOn, AreDistinct, counts_on, read_each}
use Rattle.cd_tree.specs.Domains.{Node, Body, Members, no_more, member, number_of, numbers_from, node_numbers, body_numbers, member_numbers}
use Rattle.cd_tree.specs.Reading.{Case, Counts, read_node}
use Rattle.cd_tree.specs.Slices.{IsSlice, among, in_slice, node_size, members_size, MembersFollow}
use Rattle.cd_tree.proofs.Numbers.{copies-at_most_one}
use Rattle.cd_tree.proofs.OtherCounts.{among_first}
use Rattle.cd_tree.proofs.OtherParts.{on_inside, on_outside}
use Rattle.cd_tree.proofs.Slices.{among_run}
use Rattle.cd_cover.specs.Plans.{PlanModel}
use Rattle.cd_core.specs.StateModel.{StateModel}
use Rattle.cd_core.specs.Resuming.{put_at, counts_taken}
use Rattle.cd_core.proofs.Choices.{or_right}
use Rattle.cd_core.proofs.GroupsGiven.{GroupAt}
use Rattle.cd_core.proofs.Returning.{CameBack}
use Rattle.cd_core.proofs.TakenBack.{Pairs}

-- ---- runs of numbers

numbers_split : (a at r n k : ℕ) → n ≡ a + r → k ≡ at + a → numbers_from at n ≡ numbers_from at a ++ numbers_from k r
numbers_split zero at r n k e f =
    let same : n ≡ r = omega (arith, e) in
    let here : k ≡ at = omega (arith, f) in
    ap (λ (m : ℕ). numbers_from at m) same ∙ ap (λ (i : ℕ). numbers_from i r) (sym here)
numbers_split (suc a) at r zero k e f = absurd (omega (arith, e))
numbers_split (suc a) at r (suc n) k e f =
    ap (λ (ns : List ℕ). at ∷ ns) (numbers_split a (suc at) r n k (omega (arith, e)) (omega (arith, f)))

numbers_length : (n at : ℕ) → length (numbers_from at n) ≡ n
numbers_length zero at = refl
numbers_length (suc n) at = omega (arith, numbers_length n (suc at))

inside : (at size n : ℕ) → in_slice at size n ≡ true → (at ≤ n) × (n < at + size)
inside at size n e = (low at size n e, high at size n e)
  where
    low : (at size n : ℕ) → in_slice at size n ≡ true → at ≤ n
    low at size n e = grind (arith, nat_tests)

    high : (at size n : ℕ) → in_slice at size n ≡ true → n < at + size
    high at size n e = grind (arith, nat_tests)

below_it : (at size n : ℕ) → n < at → in_slice at size n ≡ false
below_it at size n e = grind (arith, nat_tests)

above_it : (at size n : ℕ) → at + size ≤ n → in_slice at size n ≡ false
above_it at size n e = grind (arith, nat_tests)

in_run : (at size n : ℕ) → among (numbers_from at size) n ≡ true → (at ≤ n) × (n < at + size)
in_run at size n e = inside at size n (sym (among_run at size n) ∙ e)

-- counts that are the same on numbers are the same list
pub map_same : (c e : Counts) (numbers : List ℕ) → AgreeOn numbers c e → map c numbers ≡ map e numbers
map_same c e [] agree = refl
map_same c e (n ∷ numbers) agree =
    ap (λ (x : ℕ). x ∷ map c numbers) (agree n (among_first n numbers))
    ∙ ap (λ (xs : List ℕ). e n ∷ xs) (map_same c e numbers (λ k h. agree k (or_right (k == n) (among numbers k) h)))

-- ---- a part put in

-- counts of a run in three parts, the one in the middle put in
three_put : (now c new : Counts) (low mid high : List ℕ) (a : ℕ) → length low ≡ a
    → AgreeOn low now new → AgreeOn mid c new → AgreeOn high now new
    → put_at (map now (low ++ (mid ++ high))) a (map c mid) ≡ map new (low ++ (mid ++ high))
three_put now c new low mid high a long first second third =
    let whole : map now (low ++ (mid ++ high)) ≡ map now low ++ map now (mid ++ high) = map-append now low (mid ++ high) in
    let long_low : length (map now low) ≡ a = length-map low now ∙ long in
    let taken : take a (map now (low ++ (mid ++ high))) ≡ map now low =
    ap (λ (xs : List ℕ). take a xs) whole ∙ take_at (map now low) (map now (mid ++ high)) a long_low in
    let long_both : length (map now low ++ map now mid) ≡ a + length (map c mid) =
    omega (arith, length-append (map now low) (map now mid), long_low, length-map mid now, length-map mid c) in
    let parts : map now (low ++ (mid ++ high)) ≡ (map now low ++ map now mid) ++ map now high =
    whole ∙ ap (λ (xs : List ℕ). map now low ++ xs) (map-append now mid high) ∙ sym (append_assoc (map now low) (map now mid) (map now high)) in
    let dropped : drop (a + length (map c mid)) (map now (low ++ (mid ++ high))) ≡ map now high =
    ap (λ (xs : List ℕ). drop (a + length (map c mid)) xs) parts ∙ drop_at (map now low ++ map now mid) (map now high) (a + length (map c mid)) long_both in
    ap (λ (xs : List ℕ). xs ++ (map c mid ++ drop (a + length (map c mid)) (map now (low ++ (mid ++ high))))) (taken ∙ map_same now new low first)
    ∙ ap (λ (xs : List ℕ). map new low ++ (map c mid ++ xs)) (dropped ∙ map_same now new high third)
    ∙ ap (λ (xs : List ℕ). map new low ++ (xs ++ map new high)) (map_same c new mid second)
    ∙ ap (λ (xs : List ℕ). map new low ++ xs) (sym (map-append new mid high))
    ∙ sym (map-append new low (mid ++ high))

pub part_put : (now c : Counts) (first n at z : ℕ) (numbers : List ℕ) → numbers ≡ numbers_from at z → first ≤ at → at + z ≤ first + n
    → put_at (map now (numbers_from first n)) (at - first) (map c numbers) ≡ map (counts_on numbers c now) (numbers_from first n)
part_put now c first n at z numbers is low high =
    let a : ℕ = at - first in
    let r : ℕ = n - (a + z) in
    let new : Counts = counts_on (numbers_from at z) c now in
    let before : List ℕ = numbers_from first a in
    let mid : List ℕ = numbers_from at z in
    let after : List ℕ = numbers_from (at + z) r in
    let split : numbers_from first n ≡ before ++ (mid ++ after) =
    numbers_split a first (z + r) n at (omega arith) (omega arith)
    ∙ ap (λ (ns : List ℕ). before ++ ns) (numbers_split z at r (z + r) (at + z) refl refl) in
    let out : (k : ℕ) → in_slice at z k ≡ false → now k ≡ new k = λ k e. sym (on_outside (among mid) c now k (among_run at z k ∙ e)) in
    let put : put_at (map now (before ++ (mid ++ after))) a (map c mid) ≡ map new (before ++ (mid ++ after)) =
    three_put now c new before mid after a (numbers_length a first)
    (λ k h. out k (below_it at z k (let i : (first ≤ k) × (k < first + a) = in_run first a k h in omega (arith, i.1, low))))
    (λ k h. sym (on_inside (among mid) c now k h))
    (λ k h. out k (above_it at z k (in_run (at + z) r k h).0)) in
    let P : List ℕ → Type 0 = λ ns. put_at (map now ns) a (map c mid) ≡ map new ns in
    let Q : List ℕ → Type 0 = λ ns. put_at (map now (numbers_from first n)) a (map c ns) ≡ map (counts_on ns c now) (numbers_from first n) in
    subst Q (sym is) (subst P (sym split) put)

-- ---- all members

-- a member whose numbers lie above a number, within so many from it
pub record LiesIn (first n : ℕ) (d : Node) (child : StateModel) : Type 0 where
  pub slice : node_numbers d ≡ numbers_from child.node.0 (length (node_numbers d))
  pub low : first < child.node.0
  pub high : child.node.0 + length (node_numbers d) ≤ first + n

pub all_counted : (plan : PlanModel) (w : Case) (loaded : Words) (sent : Counts) (first : NodeId) (n : ℕ) (members : Members) (children : List StateModel)
    (now : Counts) → Pairs (CameBack plan w loaded sent) members children → Pairs (LiesIn first.0 n) members children
    → counts_taken first children (map now (numbers_from first.0 n)) ≡ map (read_each w members sent now).counts (numbers_from first.0 n)
all_counted plan w loaded sent first n no_more [] now came lie = refl
all_counted plan w loaded sent first n no_more (child ∷ children) now came lie = absurd came
all_counted plan w loaded sent first n (member d rest) [] now came lie = absurd came
all_counted plan w loaded sent first n (member d rest) (child ∷ children) now came lie =
    let c : Counts = (read_node w d sent).counts in
    let more : Counts = counts_on (node_numbers d) c now in
    let here : LiesIn first.0 n d child = lie.0 in
    let put : put_at (map now (numbers_from first.0 n)) (child.node.0 - first.0) (map c (node_numbers d)) ≡ map more (numbers_from first.0 n) =
    part_put now c first.0 n child.node.0 (length (node_numbers d)) (node_numbers d) here.slice (omega (arith, here.low)) here.high in
    ap (λ (cs : List ℕ). counts_taken first children (put_at (map now (numbers_from first.0 n)) (child.node.0 - first.0) cs)) came.0.counts
    ∙ ap (λ (cs : List ℕ). counts_taken first children cs) put
    ∙ all_counted plan w loaded sent first n rest children more came.1 lie.1

-- the counts below all of them stay
pub own_stays : (w : Case) (sent : Counts) (first n : ℕ) (members : Members) (children : List StateModel) (now : Counts) (k : ℕ) → k ≤ first
    → Pairs (LiesIn first n) members children → (read_each w members sent now).counts k ≡ now k
own_stays w sent first n no_more [] now k low lie = refl
own_stays w sent first n no_more (child ∷ children) now k low lie = absurd lie
own_stays w sent first n (member d rest) [] now k low lie = absurd lie
own_stays w sent first n (member d rest) (child ∷ children) now k low lie =
    let c : Counts = (read_node w d sent).counts in
    let here : LiesIn first n d child = lie.0 in
    let out : among (node_numbers d) k ≡ false =
    ap (λ (ns : List ℕ). among ns k) here.slice ∙ among_run child.node.0 (length (node_numbers d)) k
    ∙ below_it child.node.0 (length (node_numbers d)) k (omega (arith, low, here.low)) in
    own_stays w sent first n rest children (counts_on (node_numbers d) c now) k low lie.1 ∙ on_outside (among (node_numbers d)) c now k out

-- ---- where members lie

-- a member, as the nested view has it
pub record IsPart (d : Node) (child : StateModel) : Type 0 where
  pub number : number_of d ≡ child.node.0
  pub slice : IsSlice d

lie_from : (at first n : ℕ) (members : Members) (children : List StateModel) → MembersFollow at members → first < at
    → at + members_size members ≤ first + n → Pairs IsPart members children → Pairs (LiesIn first n) members children
lie_from at first n no_more [] follow low high parts = tt
lie_from at first n no_more (child ∷ children) follow low high parts = absurd parts
lie_from at first n (member d rest) [] follow low high parts = absurd parts
lie_from at first n (member d rest) (child ∷ children) follow low high parts =
    let sizes : length (node_numbers d ++ member_numbers rest) ≡ length (node_numbers d) + length (member_numbers rest) =
    length-append (node_numbers d) (member_numbers rest) in
    let here : number_of d ≡ at = follow.0 in
    let part : IsPart d child = parts.0 in
    let S : ℕ → Type 0 = λ k. node_numbers d ≡ numbers_from k (length (node_numbers d)) in (
      record {
        slice = subst S part.number part.slice;
        low = omega (arith, here, part.number, low);
        high = omega (arith, here, part.number, sizes, high);
      },
      lie_from (at + node_size d) first n rest children follow.1 (omega (arith, low)) (omega (arith, sizes, high)) parts.1,
    )

-- the numbers of members that follow each other are a run
run_from : (at : ℕ) (members : Members) (children : List StateModel) → MembersFollow at members → Pairs IsPart members children
    → member_numbers members ≡ numbers_from at (length (member_numbers members))
run_from at no_more [] follow parts = refl
run_from at no_more (child ∷ children) follow parts = absurd parts
run_from at (member d rest) [] follow parts = absurd parts
run_from at (member d rest) (child ∷ children) follow parts =
    let sizes : length (node_numbers d ++ member_numbers rest) ≡ length (node_numbers d) + length (member_numbers rest) =
    length-append (node_numbers d) (member_numbers rest) in
    let S : ℕ → Type 0 = λ k. node_numbers d ≡ numbers_from k (length (node_numbers d)) in
    let part : IsPart d child = parts.0 in
    let here : node_numbers d ≡ numbers_from at (length (node_numbers d)) = subst S follow.0 part.slice in
    ap (λ (ns : List ℕ). ns ++ member_numbers rest) here
    ∙ ap (λ (ns : List ℕ). numbers_from at (length (node_numbers d)) ++ ns) (run_from (at + node_size d) rest children follow.1 parts.1)
    ∙ sym (numbers_split (length (node_numbers d)) at (length (member_numbers rest)) (length (node_numbers d ++ member_numbers rest)) (at + node_size d) sizes refl)

-- the members of a group lie in their domain, and are distinct
pub record Apart (first n : ℕ) (members : Members) (children : List StateModel) : Type 0 where
  pub lie : Pairs (LiesIn first n) members children
  pub distinct : AreDistinct (member_numbers members)

pub members_apart : (first n : ℕ) (body : Body) (members : Members) (children : List StateModel) → GroupAt body (suc first) members
    → suc (length (body_numbers body)) ≤ n → Pairs IsPart members children → Apart first n members children
members_apart first n body members children g size parts =
    let D : List ℕ → Type 0 = λ ns. AreDistinct ns in
    record {
      lie = lie_from g.from first n members children g.follow (omega (arith, g.low)) (omega (arith, g.within, size)) parts;
      distinct = subst D (sym (run_from g.from members children g.follow parts)) (λ k. copies-at_most_one k g.from (length (member_numbers members)));
    }
