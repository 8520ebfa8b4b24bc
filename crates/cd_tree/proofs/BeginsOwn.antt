-- Along the record of a domain itself its state stays alive, and is free where a try has failed.
use Rattle.std.proofs.Common.{◌≡◌, ℕ, suc, ◌+◌, ◌-◌, ◌≤◌, Bool, true, false, cond, ◌==◌, Option, Some, sym, ◌∙◌, subst, arith}
use Rattle.cd_tree.specs.declared.domain.NodeId.{NodeId}
use Rattle.cd_tree.specs.declared.domain.Domain.{Domain}
use Rattle.cd_tree.specs.declared.event.Event.TheVariants.{Begin}
use Rattle.cd_tree.specs.KindSets.{no_kinds}
use Rattle.cd_tree.specs.Domains.{Node, Body, Members, node, stop, run, group, no_more, member, number_of, node_numbers, body_numbers, member_numbers}
use Rattle.cd_tree.specs.Reading.{Case, Counts, counted, Told, Blame, TryEnd, Passed, Failed, Broken, NodeEnd, Done, Escalated, GroupEnd, AllDone, SomeEscalated, Try, detected, behind_group, ends_joined, read_node, read_points, read_members, read_try}
use Rattle.cd_tree.specs.CountLaws.{copies}
use Rattle.cd_tree.proofs.Numbers.{copies-append}
use Rattle.cd_tree.proofs.BeginsParts.{Goes, Exits, Stops, Leaves, arrived_goes, detected_goes, behind_group_goes, begun_goes, tries_goes, with_member_goes}
use Rattle.cd_tree.proofs.BeginsStates.{State, is_number, along, along_quiet, IsRight, IsFree, IsAlive, free_lasts, alive_lasts, free_alive, alive_right, other_completes, member_escalates, own_begins, own_finds, completes_right, escalates_right}
use Rattle.cd_tree.proofs.BeginsOthers.{Stays, not_here, tries_keep, points_keep, members_keep}

-- these members have this parent
abbrev pub MembersUnder : (ℕ → Option NodeId) → NodeId → Members → Type 0
MembersUnder up id no_more = Unit {0}
MembersUnder up id (member first rest) = (up (number_of first) ≡ Some id) × MembersUnder up id rest

abbrev pub BodyUnder : (ℕ → Option NodeId) → NodeId → Body → Type 0
BodyUnder up id stop = Unit {0}
BodyUnder up id (run op rest) = BodyUnder up id rest
BodyUnder up id (group members rest) = MembersUnder up id members × BodyUnder up id rest

-- the members of this domain have it as their parent
abbrev pub IsParent : (ℕ → Option NodeId) → Node → Type 0
IsParent up (node id domain body) = BodyUnder up id body

-- the first of some numbers is the one, and the rest are others
pub only_here : (k i more : ℕ) → cond (k == i) 1 0 + more ≤ 1 → (k == i) ≡ true → more ≡ 0
only_here k i more = by (k == i)
  where
    by : (b : Bool) → cond b 1 0 + more ≤ 1 → b ≡ true → more ≡ 0
    by true one here = omega arith
    by false one here = absurd (cc)

once_behind : (k i more : ℕ) → cond (k == i) 1 0 + more ≤ 1 → more ≤ 1
once_behind k i more once = omega arith

-- alive, and free where it fails
abbrev pub AtTry : Counts → TryEnd → State → Type 0
AtTry counts (Passed leak) s = IsAlive s
AtTry counts (Failed cause) s = IsFree s
AtTry counts (Broken cause over) s = IsAlive s

abbrev AtMember : Counts → NodeEnd → State → Type 0
AtMember counts (Done leak) s = IsAlive s
AtMember counts (Escalated cause over) s = IsFree s

abbrev AtGroup : Counts → GroupEnd → State → Type 0
AtGroup counts (AllDone leaks) s = IsAlive s
AtGroup counts (SomeEscalated cause over) s = IsFree s

-- ---- a member of the domain

member_leaves : (up : ℕ → Option NodeId) (k : ℕ) (id : NodeId) → (k == id.0) ≡ false → is_number (up id.0) k ≡ true
    → Leaves (along up k) (Stays IsAlive) AtMember id
member_leaves up k id other here =
    record {
      completes = λ counts leak s q. other_completes IsAlive (k == id.0) s other q;
      gives_up = λ counts cause s q. member_escalates (k == id.0) (is_number (up id.0) k) s other here q;
      breaks = λ counts cause over s q. member_escalates (k == id.0) (is_number (up id.0) k) s other here q;
    }

-- a member that escalates frees the domain
member_frees : (up : ℕ → Option NodeId) (k : ℕ) (w : Case) (d : Node) (counts : Counts) (s : State)
    → is_number (up (number_of d)) k ≡ true → copies k (node_numbers d) ≡ 0 → IsAlive s
    → Goes (along up k) s AtMember (read_node w d counts)
member_frees up k w (node id domain body) counts s here none q =
    let two : ((k == id.0) ≡ false) × (copies k (body_numbers body) ≡ 0) = not_here k id.0 (copies k (body_numbers body)) none in
    tries_keep up k IsAlive alive_lasts AtMember w id domain body counts s two.0 (member_leaves up k id two.0 here)
    (λ h now x other alive. points_keep up k IsAlive alive_lasts w body h 0 no_kinds now x other two.1 alive) q

-- the rest of a group, by how the first member has ended
abbrev rest_of : NodeEnd → Counts → GroupEnd → State → Type 0
rest_of (Done leak) counts more s = AtGroup counts more s
rest_of (Escalated cause over) counts more s = IsFree s

rest_goes : (up : ℕ → Option NodeId) (k : ℕ) (end : NodeEnd) (counts : Counts) (now : State) (t : Told GroupEnd)
    → (IsAlive now → Goes (along up k) now AtGroup t) → (IsFree now → Goes (along up k) now (Stays IsFree) t)
    → AtMember counts end now → Goes (along up k) now (rest_of end) t
rest_goes up k (Done leak) counts now t alive free here = record { ends = (alive here).ends }
rest_goes up k (Escalated cause over) counts now t alive free here = record { ends = (free here).ends }

rest_joins : (end : NodeEnd) (counts : Counts) (more : GroupEnd) (now : State) → rest_of end counts more now
    → AtGroup counts (ends_joined end more) now
rest_joins (Done leak) counts (AllDone leaks) now here = here
rest_joins (Done leak) counts (SomeEscalated cause over) now here = here
rest_joins (Escalated cause over) counts (AllDone leaks) now here = here
rest_joins (Escalated cause over) counts (SomeEscalated other more) now here = here

under_number : (o : Option NodeId) (id : NodeId) (k : ℕ) → o ≡ Some id → (k == id.0) ≡ true → is_number o k ≡ true
under_number o id k e here = subst (λ (x : Option NodeId). is_number x k ≡ true) (sym e) here

members_own : (up : ℕ → Option NodeId) (k : ℕ) (id : NodeId) → (k == id.0) ≡ true → (w : Case) (members : Members) (counts : Counts)
    (s : State) → MembersUnder up id members → copies k (member_numbers members) ≡ 0 → IsAlive s
    → Goes (along up k) s AtGroup (read_members w members counts)
unfolding read_members
members_own up k id here w no_more counts s under none q = record { ends = q }
members_own up k id here w (member first rest) counts s (parent, under) none q =
    let t : Told NodeEnd = read_node w first counts in
    let sum : copies k (node_numbers first) + copies k (member_numbers rest) ≡ 0 =
    sym (copies-append k (node_numbers first) (member_numbers rest)) ∙ none in
    let one : copies k (node_numbers first) ≡ 0 = omega arith in
    let others : copies k (member_numbers rest) ≡ 0 = omega arith in
    with_member_goes (along up k) s AtMember (rest_of t.answer) AtGroup t (λ now. read_members w rest now)
    (member_frees up k w first counts s (under_number (up (number_of first)) id k parent here) one q)
    (λ now ended.
    rest_goes up k t.answer t.counts now (read_members w rest t.counts)
    (λ alive. members_own up k id here w rest t.counts now under others alive)
    (λ free. members_keep up k IsFree free_lasts w rest t.counts now others free) ended)
    (λ more end now joined. rest_joins t.answer more end now joined)

-- ---- the domain itself

own_exits : (up : ℕ → Option NodeId) (k : ℕ) (s : State) (h : Try) (counts : Counts) → (k == h.node.0) ≡ true → IsAlive s
    → Exits (along up k) s AtTry h counts
own_exits up k s h counts here q =
    record {
      passes = λ notes. q;
      fails = λ kinds some. own_finds kinds (k == h.node.0) s here some q;
      breaks = λ cause over. q;
    }

own_stops : (s : State) (cause : Blame) (counts : Counts) → IsFree s → Stops s AtTry cause counts
own_stops s cause counts q = record { fails = q; breaks = λ over. free_alive s q }

points_own : (up : ℕ → Option NodeId) (k : ℕ) (w : Case) (body : Body) (h : Try) (point notes : ℕ) (counts : Counts) (s : State)
    → (k == h.node.0) ≡ true → BodyUnder up h.node body → copies k (body_numbers body) ≡ 0 → IsAlive s
    → Goes (along up k) s AtTry (read_points w body h point notes counts)
unfolding read_points
points_own up k w stop h point notes counts s here under none q =
    arrived_goes (along up k) (along_quiet up k) s AtTry w h point notes counts (λ seen. detected h seen counts)
    (own_exits up k s h counts here q)
    (λ seen. detected_goes (along up k) s AtTry h seen counts (own_exits up k s h counts here q))
points_own up k w (run op rest) h point notes counts s here under none q =
    arrived_goes (along up k) (along_quiet up k) s AtTry w h point notes counts
    (λ seen. read_points w rest h (suc point) seen counts)
    (own_exits up k s h counts here q)
    (λ seen. points_own up k w rest h (suc point) seen counts s here under none q)
points_own up k w (group members rest) h point notes counts s here (under, later) none q =
    let t : Told GroupEnd = read_members w members counts in
    let sum : copies k (member_numbers members) + copies k (body_numbers rest) ≡ 0 =
    sym (copies-append k (member_numbers members) (body_numbers rest)) ∙ none in
    let inner : copies k (member_numbers members) ≡ 0 = omega arith in
    let outer : copies k (body_numbers rest) ≡ 0 = omega arith in
    arrived_goes (along up k) (along_quiet up k) s AtTry w h point notes counts
    (λ seen. behind_group h seen t (λ all more. read_points w rest h (suc point) all more))
    (own_exits up k s h counts here q)
    (λ seen.
    behind_group_goes (along up k) s AtGroup AtTry h seen t (λ all more. read_points w rest h (suc point) all more)
    (members_own up k h.node here w members counts s under inner q)
    (λ now leaks alive all. points_own up k w rest h (suc point) all t.counts now here later outer alive)
    (λ now cause over free. own_stops now cause t.counts free))

own_leaves : (up : ℕ → Option NodeId) (k : ℕ) (id : NodeId) → Leaves (along up k) AtTry (Stays IsRight) id
own_leaves up k id =
    record {
      completes = λ counts leak s q. completes_right (k == id.0) s (alive_right s q);
      gives_up = λ counts cause s q.
          escalates_right (k == id.0) (is_number (up id.0) k) s (alive_right s (free_alive s q));
      breaks = λ counts cause over s q. escalates_right (k == id.0) (is_number (up id.0) k) s (alive_right s q);
    }

-- a domain that may begin comes to its end with no wrong begin
pub node_own : (up : ℕ → Option NodeId) (k : ℕ) (w : Case) (id : NodeId) (domain : Domain) (body : Body) (counts : Counts) (s : State)
    → (k == id.0) ≡ true → BodyUnder up id body → copies k (body_numbers body) ≡ 0 → IsFree s
    → Goes (along up k) s (Stays IsRight) (read_node w (node id domain body) counts)
unfolding read_node
node_own up k w id domain body counts s here under none q =
    let starts : ℕ → Try = λ begin. record { node = id; detects = domain.detects; begin = begin } in
    let one_try : (first : Bool) (now : Counts) (x : State) → IsFree x → Goes (along up k) x AtTry (read_try w id domain body first now) =
    λ first now x h.
    begun_goes (along up k) (along_quiet up k) x AtTry id domain first now
    (λ begin more. read_points w body (starts begin) 0 no_kinds more)
    (points_own up k w body (starts (now id.0 + 1)) 0 no_kinds (counted id.0 now)
    (along up k x (Begin id (now id.0 + 1))) here under none
    (own_begins (k == id.0) (is_number (up k) id.0) x here h)) in
    tries_goes (along up k) (along_quiet up k) s AtTry (Stays IsRight) (domain.retry - 1) id domain
    (λ now. read_try w id domain body false now) (read_try w id domain body true counts)
    (own_leaves up k id) (λ now x cause h. one_try false now x h) (one_try true counts s q)
