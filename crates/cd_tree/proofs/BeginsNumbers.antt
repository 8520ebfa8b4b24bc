-- The begins of a domain are numbered on: along the record the last number is the count.
use Rattle.std.proofs.Common.{◌≡◌, ℕ, suc, ◌+◌, ◌-◌, Bool, true, false, ◌==◌, if◌then◌else◌, List, [], ◌∷◌, ◌++◌, Option, None, Some, IsSome, Contains, refl, ap, sym, ◌∙◌, subst, arith}
use Rattle.std.proofs.lemmas.Bool.{eqb-true, eq-eqb}
use Rattle.std.proofs.lemmas.List.Elements.{Contains-append_left, Contains-append_right, Contains-push}
use Rattle.cd_tree.specs.declared.domain.NodeId.{NodeId}
use Rattle.cd_tree.specs.declared.event.Event.{Event}
use Rattle.cd_tree.specs.declared.event.Event.TheVariants.{Begin, Saved, Fell, Lapsed, Refilled, Reached, Halted, Found, Complete, Escalate}
use Rattle.cd_tree.specs.KindSets.{no_kinds}
use Rattle.cd_tree.specs.Domains.{Node, Body, Members, node, stop, run, group, no_more, member, root_of}
use Rattle.cd_tree.specs.Reading.{Case, Counts, counted, no_begins, Told, Blame, NodeEnd, GroupEnd, Try, detected, behind_group, read_node, read_points, read_members, read_try}
use Rattle.cd_tree.specs.Record.{case_of, record_of}
use Rattle.cd_tree.specs.Begins.{DoesNotBegin, BeginsNumberOn}
use Rattle.cd_tree.proofs.BeginsParts.{state_behind, state-append, Quiet, Goes, Exits, Stops, Leaves, arrived_goes, detected_goes, behind_group_goes, begun_goes, tries_goes, with_member_goes}

abbrev only_if : Bool → ℕ → Option ℕ
only_if true number = Some number
only_if false number = None

-- a begin of the domain has the number behind the last
abbrev next_number : Bool → ℕ → Option ℕ → Option ℕ
next_number true number None = None
next_number true number (Some last) = only_if (number == last + 1) number
next_number false number last = last

-- the last number of domain `k` behind an event; none where the numbers were out of order
abbrev numbered : ℕ → Option ℕ → Event → Option ℕ
numbered k last (Begin id number) = next_number (k == id.0) number last
numbered k last event = last

numbered_quiet : (k : ℕ) → Quiet (numbered k)
numbered_quiet k =
    record {
      saved = λ last id entry how. refl;
      refilled = λ last id entry. refl;
      reached = λ last id point. refl;
      halted = λ last id kinds. refl;
    }

-- the last number is the count
abbrev IsCount : {A : Type 0} → ℕ → Counts → A → Option ℕ → Type 0
IsCount k counts answer last = last ≡ Some (counts k)

count_exits : (k : ℕ) (last : Option ℕ) (h : Try) (counts : Counts) → last ≡ Some (counts k)
    → Exits (numbered k) last (IsCount k) h counts
count_exits k last h counts q = record { passes = λ notes. q; fails = λ kinds some. q; breaks = λ cause over. q }

count_stops : (k : ℕ) (last : Option ℕ) (cause : Blame) (counts : Counts) → last ≡ Some (counts k)
    → Stops last (IsCount k) cause counts
count_stops k last cause counts q = record { fails = q; breaks = λ over. q }

count_leaves : (k : ℕ) (id : NodeId) → Leaves (numbered k) (IsCount k) (IsCount k) id
count_leaves k id =
    record {
      completes = λ counts leak last q. q;
      gives_up = λ counts cause last q. q;
      breaks = λ counts cause over last q. q;
    }

next_counts : (b : Bool) (now this : ℕ) → (b ≡ true → now ≡ this)
    → next_number b (now + 1) (Some this) ≡ Some (if b then this + 1 else this)
next_counts true now this same =
    let e : now ≡ this = same refl in
    let test : (now + 1 == this + 1) ≡ true = eq-eqb (now + 1) (this + 1) (omega arith) in
    subst (λ t. only_if t (now + 1) ≡ Some (this + 1)) (sym test) (ap (λ (n : ℕ). Some (n + 1)) e)
next_counts false now this same = refl

begin_counts : (k : ℕ) (id : NodeId) (counts : Counts) (last : Option ℕ) → last ≡ Some (counts k)
    → numbered k last (Begin id (counts id.0 + 1)) ≡ Some (counted id.0 counts k)
begin_counts k id counts last q =
    ap (next_number (k == id.0) (counts id.0 + 1)) q
    ∙ next_counts (k == id.0) (counts id.0) (counts k) (λ e. ap counts (sym (eqb-true k id.0 e)))

mutual
  unfolding read_node read_points read_members

  node_counts : (k : ℕ) (w : Case) (d : Node) (counts : Counts) (last : Option ℕ) → last ≡ Some (counts k)
      → Goes (numbered k) last (IsCount k) (read_node w d counts)
  node_counts k w (node id domain body) counts last q =
      let starts : ℕ → Try = λ begin. record { node = id; detects = domain.detects; begin = begin } in
      let one_try : (first : Bool) (now : Counts) (x : Option ℕ) → x ≡ Some (now k) → Goes (numbered k) x (IsCount k) (read_try w id domain body first now) =
      λ first now x h.
      begun_goes (numbered k) (numbered_quiet k) x (IsCount k) id domain first now
      (λ begin more. read_points w body (starts begin) 0 no_kinds more)
      (points_count k w body (starts (now id.0 + 1)) 0 no_kinds (counted id.0 now) (numbered k x (Begin id (now id.0 + 1)))
      (begin_counts k id now x h)) in
      tries_goes (numbered k) (numbered_quiet k) last (IsCount k) (IsCount k) (domain.retry - 1) id domain
      (λ now. read_try w id domain body false now) (read_try w id domain body true counts)
      (count_leaves k id) (λ now x cause h. one_try false now x h) (one_try true counts last q)

  points_count : (k : ℕ) (w : Case) (body : Body) (h : Try) (point notes : ℕ) (counts : Counts) (last : Option ℕ)
      → last ≡ Some (counts k) → Goes (numbered k) last (IsCount k) (read_points w body h point notes counts)
  points_count k w stop h point notes counts last q =
      arrived_goes (numbered k) (numbered_quiet k) last (IsCount k) w h point notes counts (λ seen. detected h seen counts)
      (count_exits k last h counts q)
      (λ seen. detected_goes (numbered k) last (IsCount k) h seen counts (count_exits k last h counts q))
  points_count k w (run op rest) h point notes counts last q =
      arrived_goes (numbered k) (numbered_quiet k) last (IsCount k) w h point notes counts
      (λ seen. read_points w rest h (suc point) seen counts)
      (count_exits k last h counts q)
      (λ seen. points_count k w rest h (suc point) seen counts last q)
  points_count k w (group members rest) h point notes counts last q =
      let t : Told GroupEnd = read_members w members counts in
      arrived_goes (numbered k) (numbered_quiet k) last (IsCount k) w h point notes counts
      (λ seen. behind_group h seen t (λ all more. read_points w rest h (suc point) all more))
      (count_exits k last h counts q)
      (λ seen.
      behind_group_goes (numbered k) last (IsCount k) (IsCount k) h seen t
      (λ all more. read_points w rest h (suc point) all more)
      (members_count k w members counts last q)
      (λ now leaks here all. points_count k w rest h (suc point) all t.counts now here)
      (λ now cause over here. count_stops k now cause t.counts here))

  members_count : (k : ℕ) (w : Case) (members : Members) (counts : Counts) (last : Option ℕ) → last ≡ Some (counts k)
      → Goes (numbered k) last (IsCount k) (read_members w members counts)
  members_count k w no_more counts last q = record { ends = q }
  members_count k w (member first rest) counts last q =
      let t : Told NodeEnd = read_node w first counts in
      with_member_goes (numbered k) last (IsCount k) (IsCount k) (IsCount k) t (λ now. read_members w rest now)
      (node_counts k w first counts last q)
      (λ now here. members_count k w rest t.counts now here)
      (λ more end now here. here)

-- ---- read off

some_there : (last : Option ℕ) (n : ℕ) → last ≡ Some n → IsSome last
some_there None n e = absurd (cc)
some_there (Some last) n e = refl

none_stays : (k : ℕ) (x : Event) → numbered k None x ≡ None
none_stays k (Begin id number) = by (k == id.0)
  where
    by : (own : Bool) → next_number own number None ≡ None
    by true = refl
    by false = refl
none_stays k (Saved id entry how) = refl
none_stays k (Fell id entry place wanted found) = refl
none_stays k (Lapsed id entry seen found) = refl
none_stays k (Refilled id entry) = refl
none_stays k (Reached id point) = refl
none_stays k (Halted id kinds) = refl
none_stays k (Found id kinds) = refl
none_stays k (Complete id) = refl
none_stays k (Escalate id) = refl

none_to_the_end : (k : ℕ) (xs : List Event) → state_behind (numbered k) None xs ≡ None
none_to_the_end k [] = refl
none_to_the_end k (x ∷ xs) = ap (λ last. state_behind (numbered k) last xs) (none_stays k x) ∙ none_to_the_end k xs

-- what is in order at the end was so before
some_before : (k : ℕ) (xs : List Event) (last : Option ℕ) → IsSome (state_behind (numbered k) last xs) → IsSome last
some_before k xs None some = subst (λ (o : Option ℕ). IsSome o) (none_to_the_end k xs) some
some_before k xs (Some n) some = refl

-- events without a begin of the domain change nothing
same_behind : (id : NodeId) (x : Event) (last : Option ℕ) → ((number : ℕ) → x ≡ Begin id number → ⊥) → numbered id.0 last x ≡ last
same_behind id (Begin owner number) last other = by (id.0 == owner.0) refl
  where
    by : (own : Bool) → (id.0 == owner.0) ≡ own → next_number own number last ≡ last
    by true e =
        let make : ℕ → NodeId = λ n. record { 0 = n } in
        let same : owner ≡ id = ap make (sym (eqb-true id.0 owner.0 e)) in
        absurd (other number (ap (λ (i : NodeId). Begin i number) same))
    by false e = refl
same_behind id (Saved owner entry how) last other = refl
same_behind id (Fell owner entry place wanted found) last other = refl
same_behind id (Lapsed owner entry seen found) last other = refl
same_behind id (Refilled owner entry) last other = refl
same_behind id (Reached owner point) last other = refl
same_behind id (Halted owner kinds) last other = refl
same_behind id (Found owner kinds) last other = refl
same_behind id (Complete owner) last other = refl
same_behind id (Escalate owner) last other = refl

same_to_the_end : (id : NodeId) (xs : List Event) (last : Option ℕ) → DoesNotBegin id xs → state_behind (numbered id.0) last xs ≡ last
same_to_the_end id [] last not_it = refl
same_to_the_end id (x ∷ xs) last not_it =
    let here : numbered id.0 last x ≡ last =
    same_behind id x last (λ number e.
    not_it number (subst (Contains (x ∷ xs)) e (Contains-append_left (x ∷ []) xs x (Contains-push [] x)))) in
    ap (λ o. state_behind (numbered id.0) o xs) here
    ∙ same_to_the_end id xs last (λ number there. not_it number (Contains-append_right (x ∷ []) xs (Begin id number) there))

-- a begin in order leaves its number
own_number : (own : Bool) (number : ℕ) (last : Option ℕ) → own ≡ true → IsSome (next_number own number last)
    → next_number own number last ≡ Some number
own_number true number None own some = absurd (cc)
own_number true number (Some last) own some = by (number == last + 1) some
  where
    by : (b : Bool) → IsSome (only_if b number) → only_if b number ≡ Some number
    by true some_now = refl
    by false some_now = absurd (cc)
own_number false number last own some = absurd (cc)

next_is : (own : Bool) (number last : ℕ) → own ≡ true → IsSome (next_number own number (Some last)) → number ≡ last + 1
next_is true number last own some = by (number == last + 1) refl some
  where
    by : (b : Bool) → (number == last + 1) ≡ b → IsSome (only_if b number) → number ≡ last + 1
    by true e some_now = eqb-true number (last + 1) e
    by false e some_now = absurd (cc)
next_is false number last own some = absurd (cc)

pub begins_number_on : BeginsNumberOn
begins_number_on tree faults id first second before between behind e not_it =
    let step : Option ℕ → Event → Option ℕ = numbered id.0 in
    let last : List Event = Begin id second ∷ behind in
    let start : Option ℕ = state_behind step (Some 0) before in
    let opened : Option ℕ = step start (Begin id first) in
    let closed : Option ℕ = state_behind step opened between in
    let own : (id.0 == id.0) ≡ true = eq-eqb id.0 id.0 refl in
    let t : Told NodeEnd = read_node (case_of tree faults) (root_of tree.domains) no_begins in
    let end : state_behind step (Some 0) (record_of tree faults) ≡ Some (t.counts id.0) =
    (node_counts id.0 (case_of tree faults) (root_of tree.domains) no_begins (Some 0) refl).ends in
    let all : IsSome (state_behind step (Some 0) (before ++ Begin id first ∷ (between ++ last))) =
    subst (λ events. IsSome (state_behind step (Some 0) events)) e
    (some_there (state_behind step (Some 0) (record_of tree faults)) (t.counts id.0) end) in
    let from_first : IsSome (state_behind step opened (between ++ last)) =
    subst (λ (o : Option ℕ). IsSome o) (state-append step (Some 0) before (Begin id first ∷ (between ++ last))) all in
    let from_second : IsSome (state_behind step (step closed (Begin id second)) behind) =
    subst (λ (o : Option ℕ). IsSome o) (state-append step opened between last) from_first in
    let opened_is : opened ≡ Some first =
    own_number (id.0 == id.0) first start own (some_before id.0 (between ++ last) opened from_first) in
    let closed_is : closed ≡ Some first = same_to_the_end id between opened not_it ∙ opened_is in
    let some : IsSome (step closed (Begin id second)) = some_before id.0 behind (step closed (Begin id second)) from_second in
    next_is (id.0 == id.0) second first own
    (subst (λ o. IsSome (next_number (id.0 == id.0) second o)) closed_is some)
