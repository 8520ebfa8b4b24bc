-- A reading knows no counts but its own: the laws of `CountLaws` on it, and members that are read each by itself.
use Rattle.std.proofs.Common.{◌≡◌, ℕ, suc, ◌+◌, ◌-◌, ◌≤◌, Bool, true, false, cond, ◌==◌, ◌||◌, List, [], ◌∷◌, ◌++◌, refl, ap, sym, ◌∙◌, subst, arith, inl, inr}
use Rattle.std.proofs.Math.Path.{fun_ext}
use Rattle.std.proofs.lemmas.Bool.{cases_Bool, or_left, or_right}
use Rattle.std.proofs.lemmas.Bool.Decides.{nat_tests}
use Rattle.cd_tree.specs.KindSets.{no_kinds}
use Rattle.cd_tree.specs.Domains.{Node, Body, Members, node, stop, run, group, no_more, member, root_of, node_numbers, body_numbers, member_numbers, Throughout, ThroughoutBody, ThroughoutMembers}
use Rattle.cd_tree.specs.Reading.{Case, Counts, Told, after, NodeEnd, GroupEnd, Try, detected, begun, behind_group, with_end, with_member, read_node, read_points, read_members}
use Rattle.cd_tree.specs.CountLaws.{copies, AreDistinct, AgreeOn, ReadsOwnCounts, ReadsPointsCounts, ReadsMembersCounts, read_each, EachIsInOrder, NumbersAreDistinct}
use Rattle.cd_tree.specs.Slices.{among}
use Rattle.cd_tree.proofs.EachDomain.{of_each}
use Rattle.cd_tree.proofs.Numbers.{copies-append, copies-at_most_one}
use Rattle.cd_tree.proofs.OtherParts.{on, put, on_inside, on_outside, begun_other, arrived_other, behind_group_other, with_member_other, tries_other}

-- each of these numbers is in the set
abbrev pub Holds : (ℕ → Bool) → List ℕ → Type 0
Holds P numbers = (n : ℕ) → among numbers n ≡ true → P n ≡ true

pub among_first : (id : ℕ) (rest : List ℕ) → among (id ∷ rest) id ≡ true
among_first id rest = same id (among rest id)
  where
    same : (id : ℕ) (b : Bool) → ((id == id) || b) ≡ true
    same id b = grind (arith, nat_tests)

pub among_left : (ms ns : List ℕ) (n : ℕ) → among ms n ≡ true → among (ms ++ ns) n ≡ true
among_left [] ns n e = cc
among_left (m ∷ ms) ns n e =
    elim (cases_Bool (n == m)) [
      | inl same ↦ or_left (n == m) (among (ms ++ ns) n) same
      | inr other ↦
          let rest : among ms n ≡ true = subst (λ (b : Bool). (b || among ms n) ≡ true) other e in
          or_right (n == m) (among (ms ++ ns) n) (among_left ms ns n rest)
    ]

pub among_right : (ms ns : List ℕ) (n : ℕ) → among ns n ≡ true → among (ms ++ ns) n ≡ true
among_right [] ns n e = e
among_right (m ∷ ms) ns n e = or_right (n == m) (among (ms ++ ns) n) (among_right ms ns n e)

mutual
  unfolding read_node read_points read_members

  node_other : (P : ℕ → Bool) (other : Counts) (w : Case) (d : Node) (counts : Counts) → Holds P (node_numbers d)
      → read_node w d (on P counts other) ≡ put P other (read_node w d counts)
  node_other P other w (node id domain body) counts holds =
      let here : P id.0 ≡ true = holds id.0 (among_first id.0 (body_numbers body)) in
      let below : Holds P (body_numbers body) = λ n e. holds n (or_right (n == id.0) (among (body_numbers body) n) e) in
      let starts : ℕ → Try = λ begin. record { node = id; detects = domain.detects; begin = begin } in
      tries_other P other (domain.retry - 1) id domain
      (λ now. begun id domain false now (λ begin more. read_points w body (starts begin) 0 no_kinds more))
      (begun id domain true (on P counts other) (λ begin more. read_points w body (starts begin) 0 no_kinds more))
      (begun id domain true counts (λ begin more. read_points w body (starts begin) 0 no_kinds more))
      (λ now. begun_other P other id domain false now (λ begin more. read_points w body (starts begin) 0 no_kinds more) here
      (λ begin more. points_other P other w body (starts begin) 0 no_kinds more below))
      (begun_other P other id domain true counts (λ begin more. read_points w body (starts begin) 0 no_kinds more) here
      (λ begin more. points_other P other w body (starts begin) 0 no_kinds more below))

  points_other : (P : ℕ → Bool) (other : Counts) (w : Case) (body : Body) (h : Try) (point notes : ℕ) (counts : Counts)
      → Holds P (body_numbers body)
      → read_points w body h point notes (on P counts other) ≡ put P other (read_points w body h point notes counts)
  points_other P other w stop h point notes counts holds =
      arrived_other P other w h point notes counts (λ seen. detected h seen (on P counts other)) (λ seen. detected h seen counts) (λ seen. refl)
  points_other P other w (run op rest) h point notes counts holds =
      arrived_other P other w h point notes counts (λ seen. read_points w rest h (suc point) seen (on P counts other))
      (λ seen. read_points w rest h (suc point) seen counts)
      (λ seen. points_other P other w rest h (suc point) seen counts holds)
  points_other P other w (group members rest) h point notes counts holds =
      let t : Told GroupEnd = read_members w members counts in
      let next : ℕ → Counts → Told _ = λ all more. read_points w rest h (suc point) all more in
      let inner : Holds P (member_numbers members) = λ n e. holds n (among_left (member_numbers members) (body_numbers rest) n e) in
      let outer : Holds P (body_numbers rest) = λ n e. holds n (among_right (member_numbers members) (body_numbers rest) n e) in
      arrived_other P other w h point notes counts (λ seen. behind_group h seen (read_members w members (on P counts other)) next)
      (λ seen. behind_group h seen t next)
      (λ seen. behind_group_other P other h seen (read_members w members (on P counts other)) t next
      (members_other P other w members counts inner) (λ all. points_other P other w rest h (suc point) all t.counts outer))

  members_other : (P : ℕ → Bool) (other : Counts) (w : Case) (members : Members) (counts : Counts) → Holds P (member_numbers members)
      → read_members w members (on P counts other) ≡ put P other (read_members w members counts)
  members_other P other w no_more counts holds = refl
  members_other P other w (member first rest) counts holds =
      let t : Told NodeEnd = read_node w first counts in
      let here : Holds P (node_numbers first) = λ n e. holds n (among_left (node_numbers first) (member_numbers rest) n e) in
      let more : Holds P (member_numbers rest) = λ n e. holds n (among_right (node_numbers first) (member_numbers rest) n e) in
      with_member_other P other (read_node w first (on P counts other)) t (λ now. read_members w rest now)
      (node_other P other w first counts here) (members_other P other w rest t.counts more)

-- counts that agree on these numbers are the same, with the one's counts of these put into the other
agree_on : (numbers : List ℕ) (counts other : Counts) → AgreeOn numbers counts other → on (among numbers) counts other ≡ other
agree_on numbers counts other agree =
    fun_ext (λ n. elim (cases_Bool (among numbers n)) [
      | inl here ↦ on_inside (among numbers) counts other n here ∙ agree n here
      | inr there ↦ on_outside (among numbers) counts other n there
    ])

-- a part of the reading, from counts that agree on its numbers: the same, with the others' counts put in
from_agreement : {A : Type 0} (numbers : List ℕ) (read : Counts → Told A) (counts other : Counts)
    → read (on (among numbers) counts other) ≡ put (among numbers) other (read counts) → AgreeOn numbers counts other
    → read other ≡ put (among numbers) other (read counts)
from_agreement numbers read counts other apart agree = ap read (sym (agree_on numbers counts other agree)) ∙ apart

pub reads_own_counts : ReadsOwnCounts
reads_own_counts w d counts other agree =
    from_agreement (node_numbers d) (read_node w d) counts other (node_other (among (node_numbers d)) other w d counts (λ n e. e)) agree

pub reads_points_counts : ReadsPointsCounts
reads_points_counts w body h point notes counts other agree =
    from_agreement (body_numbers body) (read_points w body h point notes) counts other
    (points_other (among (body_numbers body)) other w body h point notes counts (λ n e. e)) agree

pub reads_members_counts : ReadsMembersCounts
reads_members_counts w members counts other agree =
    from_agreement (member_numbers members) (read_members w members) counts other
    (members_other (among (member_numbers members)) other w members counts (λ n e. e)) agree

-- the counts of others stay, where a part of the reading from its own counts is itself with theirs put in
others_stay : {A : Type 0} (numbers : List ℕ) (t : Told A) (counts : Counts) (n : ℕ) → t ≡ put (among numbers) counts t
    → among numbers n ≡ false → t.counts n ≡ counts n
others_stay {A} numbers t counts n own e = ap (λ (x : Told A). x.counts n) own ∙ on_outside (among numbers) t.counts counts n e

pub points_others_stay : (w : Case) (body : Body) (h : Try) (point notes : ℕ) (counts : Counts) (n : ℕ) → among (body_numbers body) n ≡ false
    → (read_points w body h point notes counts).counts n ≡ counts n
points_others_stay w body h point notes counts n e =
    others_stay (body_numbers body) (read_points w body h point notes counts) counts n
    (reads_points_counts w body h point notes counts counts (λ k at. refl)) e

pub members_others_stay : (w : Case) (members : Members) (counts : Counts) (n : ℕ) → among (member_numbers members) n ≡ false
    → (read_members w members counts).counts n ≡ counts n
members_others_stay w members counts n e =
    others_stay (member_numbers members) (read_members w members counts) counts n (reads_members_counts w members counts counts (λ k at. refl)) e

pub node_others_stay : (w : Case) (d : Node) (counts : Counts) (n : ℕ) → among (node_numbers d) n ≡ false
    → (read_node w d counts).counts n ≡ counts n
node_others_stay w d counts n e =
    others_stay (node_numbers d) (read_node w d counts) counts n (reads_own_counts w d counts counts (λ k at. refl)) e

among_some : (n : ℕ) (numbers : List ℕ) → among numbers n ≡ true → 1 ≤ copies n numbers
among_some n [] e = cc
among_some n (k ∷ numbers) e =
    elim (cases_Bool (n == k)) [
      | inl same ↦ rw same (omega arith)
      | inr other ↦
          let rest : among numbers n ≡ true = subst (λ (b : Bool). (b || among numbers n) ≡ true) other e in
          let more : 1 ≤ copies n numbers = among_some n numbers rest in
          rw other (omega arith)
    ]

-- two lists that have no number twice share none
pub apart : (ms ns : List ℕ) (n : ℕ) → AreDistinct (ms ++ ns) → among ns n ≡ true → among ms n ≡ false
apart ms ns n distinct e =
    elim (cases_Bool (among ms n)) [
      | inl here ↦
          let one : copies n (ms ++ ns) ≤ 1 = distinct n in
          absurd (omega (arith, copies-append n ms ns, among_some n ms here, among_some n ns e))
      | inr there ↦ there
    ]

pub distinct_right : (ms ns : List ℕ) → AreDistinct (ms ++ ns) → AreDistinct ns
distinct_right ms ns distinct n = let one : copies n (ms ++ ns) ≤ 1 = distinct n in omega (arith, copies-append n ms ns)

distinct_left : (ms ns : List ℕ) → AreDistinct (ms ++ ns) → AreDistinct ms
distinct_left ms ns distinct n = let one : copies n (ms ++ ns) ≤ 1 = distinct n in omega (arith, copies-append n ms ns)

-- the counts at sending need to be the members' own counts now
each_in_order : (w : Case) (members : Members) (sent now : Counts) → AgreeOn (member_numbers members) sent now
    → AreDistinct (member_numbers members) → read_each w members sent now ≡ read_members w members now
unfolding read_members
each_in_order w no_more sent now agree distinct = refl
each_in_order w (member first rest) sent now agree distinct =
    let t : Told NodeEnd = read_node w first now in
    let own : AgreeOn (node_numbers first) sent now = λ n e. agree n (among_left (node_numbers first) (member_numbers rest) n e) in
    let others : AgreeOn (member_numbers rest) sent t.counts = λ n e.
    agree n (among_right (node_numbers first) (member_numbers rest) n e)
    ∙ sym (node_others_stay w first now n (apart (node_numbers first) (member_numbers rest) n distinct e)) in
    ap (λ (x : Told NodeEnd). with_member x (λ more. read_each w rest sent more)) (sym (reads_own_counts w first sent now own))
    ∙ ap (λ (x : Told GroupEnd). after t.past (with_end t.answer x))
    (each_in_order w rest sent t.counts others (distinct_right (node_numbers first) (member_numbers rest) distinct))

pub each_is_in_order : EachIsInOrder
each_is_in_order w members sent distinct = each_in_order w members sent sent (λ n e. refl) distinct

distinct_rest : (id : ℕ) (numbers : List ℕ) → AreDistinct (id ∷ numbers) → AreDistinct numbers
distinct_rest id numbers distinct n =
    let all : cond (n == id) 1 0 + copies n numbers ≤ 1 = distinct n in
    omega arith

mutual
  node_distinct : (d : Node) → AreDistinct (node_numbers d) → Throughout (λ e. AreDistinct (node_numbers e)) d
  node_distinct (node id domain body) distinct = (distinct, body_distinct body (distinct_rest id.0 (body_numbers body) distinct))

  body_distinct : (body : Body) → AreDistinct (body_numbers body) → ThroughoutBody (λ e. AreDistinct (node_numbers e)) body
  body_distinct stop distinct = tt
  body_distinct (run op rest) distinct = body_distinct rest distinct
  body_distinct (group members rest) distinct = (
    members_distinct members (distinct_left (member_numbers members) (body_numbers rest) distinct),
    body_distinct rest (distinct_right (member_numbers members) (body_numbers rest) distinct),
  )

  members_distinct : (members : Members) → AreDistinct (member_numbers members)
      → ThroughoutMembers (λ e. AreDistinct (node_numbers e)) members
  members_distinct no_more distinct = tt
  members_distinct (member first rest) distinct = (
    node_distinct first (distinct_left (node_numbers first) (member_numbers rest) distinct),
    members_distinct rest (distinct_right (node_numbers first) (member_numbers rest) distinct),
  )

pub numbers_are_distinct : NumbersAreDistinct
numbers_are_distinct tree is =
    let all : AreDistinct (node_numbers (root_of tree.domains)) = λ n. rw is.preorder (copies-at_most_one n 0 _) in
    of_each tree is (λ d. AreDistinct (node_numbers d)) (node_distinct (root_of tree.domains) all)
