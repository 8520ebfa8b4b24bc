-- The counts at fronts, and behind the members of a group, lie between those before a reading and those after it.
use Rattle.std.proofs.Common.{◌≡◌, ℕ, zero, suc, ◌+◌, ◌≤◌, true, false, cond, ◌==◌, bit_and, ◌++◌, Some, refl, ap, sym, ◌∙◌, subst, arith, le_refl, inl, inr}
use Rattle.std.proofs.lemmas.Bool.{cases_Bool, eqb-true}
use Rattle.cd_tree.specs.declared.domain.NodeId.{NodeId}
use Rattle.cd_tree.specs.declared.domain.Domain.{Domain}
use Rattle.cd_tree.specs.KindSets.{no_kinds}
use Rattle.cd_tree.specs.Domains.{Node, Body, Members, node, stop, run, group, no_more, member, body_behind, node_numbers, body_numbers, member_numbers}
use Rattle.cd_tree.specs.Reading.{Case, Counts, counted, Told, after, TryEnd, NodeEnd, GroupEnd, Try, group_ended, tries, read_node, read_points, read_members, read_try}
use Rattle.cd_tree.specs.Fronts.{Stand, next_point, behind_point, behind_arrival, behind_front, behind_members}
use Rattle.cd_tree.specs.FrontLaws.{StandsThere, PassedPointsAreQuiet, NoGroupLeakHalts, FrontCountsLieBetween, MemberCountsLieBelow}
use Rattle.cd_tree.specs.CountLaws.{copies, AreDistinct, AgreeOn, EachMember, MembersStayBelow}
use Rattle.cd_tree.specs.Slices.{among}
use Rattle.cd_tree.proofs.Leaks.{QuietGroup, members_quiet}
use Rattle.cd_tree.proofs.Numbers.{copies-append}
use Rattle.cd_tree.proofs.CountsParts.{Grows, grows_more, counted_least, unless_halted_grows, detected_grows, group_ended_grows, behind_group_grows, begun_grows, tries_grows}
use Rattle.cd_tree.proofs.CountsReading.{points_grow, members_grow, counts-do-not-fall, member-counts-do-not-fall}
use Rattle.cd_tree.proofs.OtherParts.{on_inside}
use Rattle.cd_tree.proofs.OtherCounts.{reads_own_counts, node_others_stay, among_left, among_right, apart, distinct_right}
use Rattle.cd_tree.proofs.FrontSteps.{there, Onward, next_onward, tried_all}
use Rattle.cd_tree.proofs.FrontsStand.{Kept, in_fronts, if_there, fronts_lead, fronts_stand}
use Rattle.cd_tree.proofs.FrontsWait.{next_there, members_lead}

point_grows : (n : ℕ) (w : Case) (body : Body) (h : Try) (point notes : ℕ) (counts : Counts)
    → Grows n (counts n) (copies n (body_numbers body)) (behind_point w body h point notes counts)
point_grows n w stop h point notes counts = detected_grows n 0 h notes counts
point_grows n w (run op rest) h point notes counts = points_grow n w rest h (suc point) notes counts
point_grows n w (group members rest) h point notes counts =
    let t : Told GroupEnd = read_members w members counts in
    rw (copies-append n (member_numbers members) (body_numbers rest))
    (behind_group_grows n (copies n (member_numbers members)) (copies n (body_numbers rest)) h notes counts t
    (λ all now. read_points w rest h (suc point) all now)
    (members_grow n w members counts) (λ all. points_grow n w rest h (suc point) all t.counts))

arrival_grows : (n : ℕ) (w : Case) (s : Stand) (counts : Counts)
    → Grows n (counts n) (copies n (body_numbers s.rest)) (behind_arrival w s counts)
arrival_grows n w s counts =
    unless_halted_grows n (copies n (body_numbers s.rest)) s.trying (bit_and s.kinds w.halts) s.notes counts
    (λ notes. behind_point w s.rest s.trying s.point notes counts) (bit_and s.kinds w.halts == no_kinds)
    (point_grows n w s.rest s.trying s.point s.notes counts)

behind_has_fewer : (n k : ℕ) (body : Body) → copies n (body_numbers (body_behind k body)) ≤ copies n (body_numbers body)
behind_has_fewer n zero body = le_refl (copies n (body_numbers body))
behind_has_fewer n (suc k) stop = le_refl 0
behind_has_fewer n (suc k) (run op rest) = behind_has_fewer n k rest
behind_has_fewer n (suc k) (group members rest) =
    rw (copies-append n (member_numbers members) (body_numbers rest)) (omega (arith, behind_has_fewer n k rest))

-- no count falls in what is left behind a front, from any counts on that this rest of a try begins with
left_rises : (n : ℕ) (w : Case) (id : NodeId) (domain : Domain) (body : Body) (spare base many : ℕ) (t : Told TryEnd)
    → Grows n base many t → many ≤ copies n (body_numbers body)
    → base ≤ (tries spare id domain (λ now. read_try w id domain body false now) t).counts n
left_rises n w id domain body spare base many t grows few =
    let starts : ℕ → Try = λ begin. record { node = id; detects = domain.detects; begin = begin } in
    let own : ℕ = cond (n == id.0) 1 0 in
    let all : ℕ = own + copies n (body_numbers body) in
    let enough : many ≤ own + copies n (body_numbers body) = omega arith in
    (tries_grows n base all spare id domain (λ now. read_try w id domain body false now) t
    (λ now. begun_grows n (copies n (body_numbers body)) id domain false now (λ begin more. read_points w body (starts begin) 0 no_kinds more)
    (points_grow n w body (starts (now id.0 + 1)) 0 no_kinds (counted id.0 now)))
    (grows_more n base many all t enough grows)).least

-- the counts at a front are not below those before the reading
rises_kept : (w : Case) (id : NodeId) (domain : Domain) (body : Body) (counts : Counts) (n : ℕ)
    → Kept w (node id domain body) counts (λ t point f. counts n ≤ f.counts n)
rises_kept w id domain body counts n =
    let d : Node = node id domain body in
    record {
      start = counted_least n id.0 (counts n) (counted id.0 counts n) (le_refl (counted id.0 counts n));
      onward = λ t point f low.
          if_there (λ g. (Onward w (after f.past (behind_arrival w f.answer.stand f.counts)) f g) × ((bit_and f.answer.stand.kinds w.halts == no_kinds) ≡ true))
          (λ g. counts n ≤ g.counts n) (next_point w f)
          (λ g on. let more : f.counts n ≤ g.counts n = on.0.rises n in omega arith) (next_onward w f);
      again = λ t point f low.
          let rest : Told TryEnd = behind_arrival w f.answer.stand f.counts in
          let over : Told TryEnd = after f.past rest in
          tried_all (λ g. counts n ≤ g.counts n) w d f.answer.spare over over.answer
          (λ less cause spare failed.
          let left : f.counts n ≤ rest.counts n = (arrival_grows n w f.answer.stand f.counts).least in
          let more : rest.counts n ≤ counted id.0 rest.counts n =
          counted_least n id.0 (rest.counts n) (counted id.0 rest.counts n) (le_refl (counted id.0 rest.counts n)) in
          omega arith);
    }

pub front_counts_lie_between : FrontCountsLieBetween
front_counts_lie_between w (node id domain body) counts t point f n e =
    let stands : StandsThere w id domain body counts t point f.answer f.counts = fronts_stand w id domain body counts t point f e in
    let s : Stand = f.answer.stand in
    let few : copies n (body_numbers s.rest) ≤ copies n (body_numbers body) =
    subst (λ (b : Body). copies n (body_numbers b) ≤ copies n (body_numbers body)) (sym stands.rest) (behind_has_fewer n point body) in
    let rises : f.counts n ≤ (behind_front w (node id domain body) f.answer f.counts).counts n =
    left_rises n w id domain body f.answer.spare (f.counts n) (copies n (body_numbers s.rest)) (behind_arrival w s f.counts)
    (arrival_grows n w s f.counts) few in
    let whole : (behind_front w (node id domain body) f.answer f.counts).counts n ≡ (read_node w (node id domain body) counts).counts n =
    ap (λ (x : Told NodeEnd). x.counts n) (fronts_lead w (node id domain body) counts t point f e) in (
      in_fronts w (node id domain body) counts (λ t point f. counts n ≤ f.counts n) (rises_kept w id domain body counts n) t point f e,
      omega arith,
    )

pub member_counts_lie_below : MemberCountsLieBelow
member_counts_lie_below w (node id domain body) counts t point f members behind n e waits =
    let stands : StandsThere w id domain body counts t point f.answer f.counts = fronts_stand w id domain body counts t point f e in
    let s : Stand = f.answer.stand in
    let all : Told GroupEnd = read_members w members f.counts in
    let next : ℕ → Counts → Told TryEnd = λ notes now. read_points w behind s.trying (suc s.point) notes now in
    let left : Told TryEnd = group_ended s.trying s.notes all.counts all.answer next in
    let both : copies n (member_numbers members ++ body_numbers behind) ≤ copies n (body_numbers body) =
    subst (λ (b : Body). copies n (body_numbers b) ≤ copies n (body_numbers body)) (sym stands.rest ∙ waits.comes) (behind_has_fewer n point body) in
    let few : copies n (body_numbers behind) ≤ copies n (body_numbers body) =
    omega (arith, copies-append n (member_numbers members) (body_numbers behind)) in
    let rises : all.counts n ≤ (behind_members w (node id domain body) f.answer behind all.counts all.answer).counts n =
    left_rises n w id domain body f.answer.spare (all.counts n) (copies n (body_numbers behind)) left
    (group_ended_grows n (copies n (body_numbers behind)) s.trying s.notes all.counts all.answer next
    (λ seen. points_grow n w behind s.trying (suc s.point) seen all.counts)) few in
    let whole : (behind_members w (node id domain body) f.answer behind all.counts all.answer).counts n ≡ (read_node w (node id domain body) counts).counts n =
    ap (λ (x : Told NodeEnd). x.counts n) (members_lead w (node id domain body) counts t point f members behind e waits) in
    omega arith

-- a member's count from the counts at sending, where those now are not below
member_below : (w : Case) (d : Node) (sent now : Counts) (n : ℕ) → AgreeOn (node_numbers d) sent now → sent n ≤ now n
    → (read_node w d sent).counts n ≤ (read_node w d now).counts n
member_below w d sent now n agree low =
    elim (cases_Bool (among (node_numbers d) n)) [
      | inl own ↦
          let same : (read_node w d now).counts n ≡ (read_node w d sent).counts n =
          ap (λ (x : Told NodeEnd). x.counts n) (reads_own_counts w d sent now agree)
          ∙ on_inside (among (node_numbers d)) (read_node w d sent).counts now n own in
          omega arith
      | inr other ↦
          let stays : (read_node w d sent).counts n ≡ sent n = node_others_stay w d sent n other in
          let rises : now n ≤ (read_node w d now).counts n = counts-do-not-fall w d now n in
          omega arith
    ]

each_below : (w : Case) (members : Members) (sent now : Counts) (n : ℕ) → AgreeOn (member_numbers members) sent now → sent n ≤ now n
    → AreDistinct (member_numbers members)
    → EachMember (λ d. (read_node w d sent).counts n ≤ (read_members w members now).counts n) members
unfolding read_members
each_below w no_more sent now n agree low distinct = tt
each_below w (member first rest) sent now n agree low distinct =
    let t : Told NodeEnd = read_node w first now in
    let own : AgreeOn (node_numbers first) sent now = λ k e. agree k (among_left (node_numbers first) (member_numbers rest) k e) in
    let others : AgreeOn (member_numbers rest) sent t.counts = λ k e.
    agree k (among_right (node_numbers first) (member_numbers rest) k e)
    ∙ sym (node_others_stay w first now k (apart (node_numbers first) (member_numbers rest) k distinct e)) in
    let rises : now n ≤ t.counts n = counts-do-not-fall w first now n in
    let here : (read_node w first sent).counts n ≤ t.counts n = member_below w first sent now n own low in
    let on : t.counts n ≤ (read_members w rest t.counts).counts n = member-counts-do-not-fall w rest t.counts n in (
      omega arith,
      each_below w rest sent t.counts n others (omega arith) (distinct_right (node_numbers first) (member_numbers rest) distinct),
    )

pub members_stay_below : MembersStayBelow
members_stay_below w members sent n distinct = each_below w members sent sent n (λ k e. refl) (le_refl (sent n)) distinct

pub passed_points_are_quiet : PassedPointsAreQuiet
passed_points_are_quiet w (node id domain body) counts t point f g e next =
    let stands : StandsThere w id domain body counts t point f.answer f.counts = fronts_stand w id domain body counts t point f e in
    let on : next_point w f ≡ Some g = sym (next_there w (node id domain body) counts t point f e) ∙ next in
    let step : (Onward w (after f.past (behind_arrival w f.answer.stand f.counts)) f g) × ((bit_and f.answer.stand.kinds w.halts == no_kinds) ≡ true) =
    there (λ g. (Onward w (after f.past (behind_arrival w f.answer.stand f.counts)) f g) × ((bit_and f.answer.stand.kinds w.halts == no_kinds) ≡ true))
    (next_point w f) g on (next_onward w f) in
    stands.notes ∙ eqb-true (bit_and f.answer.stand.kinds w.halts) no_kinds step.1

pub no_group_leak_halts : NoGroupLeakHalts
no_group_leak_halts w members counts leaks is = subst (QuietGroup w.halts) is (members_quiet w members counts)
