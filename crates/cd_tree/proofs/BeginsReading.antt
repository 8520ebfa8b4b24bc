-- Along the whole record of a program no begin of a domain is wrong.
use Rattle.std.proofs.Common.{◌≡◌, ℕ, suc, ◌+◌, ◌-◌, ◌≤◌, Bool, true, false, ◌==◌, Option, Some, refl, ap, sym, ◌∙◌, subst, arith, inl, inr}
use Rattle.std.proofs.lemmas.Bool.{cases_eq, cases_Bool, eqb-true, eq-eqb}
use Rattle.cd_tree.specs.declared.domain.NodeId.{NodeId}
use Rattle.cd_tree.specs.declared.event.Event.TheVariants.{Begin}
use Rattle.cd_tree.specs.KindSets.{no_kinds}
use Rattle.cd_tree.specs.Domains.{Node, Body, Members, node, stop, run, group, no_more, member, number_of, node_numbers, body_numbers, member_numbers, Throughout, ThroughoutBody, ThroughoutMembers}
use Rattle.cd_tree.specs.Reading.{Case, Counts, counted, Told, NodeEnd, GroupEnd, Try, detected, behind_group, read_node, read_points, read_members, read_try}
use Rattle.cd_tree.specs.CountLaws.{copies}
use Rattle.cd_tree.proofs.Numbers.{copies-append}
use Rattle.cd_tree.proofs.BeginsParts.{Goes, Exits, Leaves, arrived_goes, detected_goes, behind_group_goes, begun_goes, tries_goes, with_member_goes}
use Rattle.cd_tree.proofs.BeginsStates.{State, is_number, along, along_quiet, IsRight, IsFit, right_lasts, fit_lasts, fit_right, other_finds, fits_behind_begin, completes_right, escalates_right}
use Rattle.cd_tree.proofs.BeginsOthers.{Stays, other_stops, node_keeps, points_keep, members_keep}
use Rattle.cd_tree.proofs.BeginsOwn.{MembersUnder, BodyUnder, IsParent, only_here, node_own}

right_exits : (up : ℕ → Option NodeId) (k : ℕ) (s : State) (h : Try) (counts : Counts) → IsRight s
    → Exits (along up k) s (Stays IsRight) h counts
right_exits up k s h counts q =
    record {
      passes = λ notes. q;
      fails = λ kinds some. other_finds IsRight right_lasts kinds (k == h.node.0) s q;
      breaks = λ cause over. q;
    }

right_leaves : (up : ℕ → Option NodeId) (k : ℕ) (id : NodeId) → Leaves (along up k) (Stays IsRight) (Stays IsRight) id
right_leaves up k id =
    record {
      completes = λ counts leak s q. completes_right (k == id.0) s q;
      gives_up = λ counts cause s q. escalates_right (k == id.0) (is_number (up id.0) k) s q;
      breaks = λ counts cause over s q. escalates_right (k == id.0) (is_number (up id.0) k) s q;
    }

-- what is fit in the parent's try is fit where the domain's own part begins
fit_at : (up : ℕ → Option NodeId) (k n : ℕ) (id : NodeId) (s : State) → up n ≡ Some id → IsFit (is_number (up k) id.0) s
    → IsFit (k == n) s
fit_at up k n id s parent q =
    elim (cases_Bool (k == n)) [
      | inl own ↦
          let same : k ≡ n = eqb-true k n own in
          let here : up k ≡ Some id = ap up same ∙ parent in
          let number : is_number (up k) id.0 ≡ true =
          subst (λ (o : Option NodeId). is_number o id.0 ≡ true) (sym here) (eq-eqb id.0 id.0 refl) in
          subst (λ b. IsFit b s) (sym own) (subst (λ b. IsFit b s) number q)
      | inr other ↦ subst (λ b. IsFit b s) (sym other) (fit_right (is_number (up k) id.0) s q)
    ]

mutual
  unfolding read_node read_points read_members

  pub node_right : (up : ℕ → Option NodeId) (k : ℕ) (w : Case) (d : Node) (counts : Counts) (s : State)
      → Throughout (IsParent up) d → copies k (node_numbers d) ≤ 1 → IsFit (k == number_of d) s
      → Goes (along up k) s (Stays IsRight) (read_node w d counts)
  node_right up k w (node id domain body) counts s (under, below) once q =
      elim (cases_Bool (k == id.0)) [
        | inl own ↦
            node_own up k w id domain body counts s own under (only_here k id.0 (copies k (body_numbers body)) once own)
            (subst (λ b. IsFit b s) own q)
        | inr other ↦
            let starts : ℕ → Try = λ begin. record { node = id; detects = domain.detects; begin = begin } in
            let inner : copies k (body_numbers body) ≤ 1 = omega arith in
            let one_try : (first : Bool) (now : Counts) (x : State) → IsRight x → Goes (along up k) x (Stays IsRight) (read_try w id domain body first now) =
            λ first now x h.
            begun_goes (along up k) (along_quiet up k) x (Stays IsRight) id domain first now
            (λ begin more. read_points w body (starts begin) 0 no_kinds more)
            (points_right up k w body (starts (now id.0 + 1)) 0 no_kinds (counted id.0 now)
            (along up k x (Begin id (now id.0 + 1))) other under below inner
            (fits_behind_begin (k == id.0) (is_number (up k) id.0) x other h)) in
            tries_goes (along up k) (along_quiet up k) s (Stays IsRight) (Stays IsRight) (domain.retry - 1) id domain
            (λ now. read_try w id domain body false now) (read_try w id domain body true counts)
            (right_leaves up k id) (λ now x cause h. one_try false now x h)
            (one_try true counts s (fit_right (k == id.0) s q))
      ]

  points_right : (up : ℕ → Option NodeId) (k : ℕ) (w : Case) (body : Body) (h : Try) (point notes : ℕ) (counts : Counts) (s : State)
      → (k == h.node.0) ≡ false → BodyUnder up h.node body → ThroughoutBody (IsParent up) body → copies k (body_numbers body) ≤ 1
      → IsFit (is_number (up k) h.node.0) s
      → Goes (along up k) s (Stays IsRight) (read_points w body h point notes counts)
  points_right up k w stop h point notes counts s other under below once q =
      let right : IsRight s = fit_right (is_number (up k) h.node.0) s q in
      arrived_goes (along up k) (along_quiet up k) s (Stays IsRight) w h point notes counts (λ seen. detected h seen counts)
      (right_exits up k s h counts right)
      (λ seen. detected_goes (along up k) s (Stays IsRight) h seen counts (right_exits up k s h counts right))
  points_right up k w (run op rest) h point notes counts s other under below once q =
      arrived_goes (along up k) (along_quiet up k) s (Stays IsRight) w h point notes counts
      (λ seen. read_points w rest h (suc point) seen counts)
      (right_exits up k s h counts (fit_right (is_number (up k) h.node.0) s q))
      (λ seen. points_right up k w rest h (suc point) seen counts s other under below once q)
  points_right up k w (group members rest) h point notes counts s other (under, later) (inside, below) once q =
      let t : Told GroupEnd = read_members w members counts in
      let b : Bool = is_number (up k) h.node.0 in
      let sum : copies k (member_numbers members) + copies k (body_numbers rest) ≤ 1 =
      subst (λ n. n ≤ 1) (copies-append k (member_numbers members) (body_numbers rest)) once in
      let outer : copies k (body_numbers rest) ≤ 1 = omega arith in
      arrived_goes (along up k) (along_quiet up k) s (Stays IsRight) w h point notes counts
      (λ seen. behind_group h seen t (λ all more. read_points w rest h (suc point) all more))
      (right_exits up k s h counts (fit_right b s q))
      (λ seen.
      elim (cases_eq (copies k (member_numbers members)) 0) [
        | inl none ↦
            behind_group_goes (along up k) s (Stays (IsFit b)) (Stays IsRight) h seen t
            (λ all more. read_points w rest h (suc point) all more)
            (members_keep up k (IsFit b) (fit_lasts b) w members counts s none q)
            (λ now leaks here all. points_right up k w rest h (suc point) all t.counts now other later below outer here)
            (λ now cause over here. other_stops IsRight now cause t.counts (fit_right b now here))
        | inr some ↦
            let inner : copies k (member_numbers members) ≤ 1 = omega arith in
            let gone : copies k (body_numbers rest) ≡ 0 = omega arith in
            behind_group_goes (along up k) s (Stays IsRight) (Stays IsRight) h seen t
            (λ all more. read_points w rest h (suc point) all more)
            (members_right up k h.node w members counts s under inside inner q)
            (λ now leaks here all. points_keep up k IsRight right_lasts w rest h (suc point) all t.counts now other gone here)
            (λ now cause over here. other_stops IsRight now cause t.counts here)
      ])

  members_right : (up : ℕ → Option NodeId) (k : ℕ) (id : NodeId) (w : Case) (members : Members) (counts : Counts) (s : State)
      → MembersUnder up id members → ThroughoutMembers (IsParent up) members → copies k (member_numbers members) ≤ 1
      → IsFit (is_number (up k) id.0) s
      → Goes (along up k) s (Stays IsRight) (read_members w members counts)
  members_right up k id w no_more counts s under below once q = record { ends = fit_right (is_number (up k) id.0) s q }
  members_right up k id w (member first rest) counts s (parent, under) (inside, below) once q =
      let t : Told NodeEnd = read_node w first counts in
      let b : Bool = is_number (up k) id.0 in
      let sum : copies k (node_numbers first) + copies k (member_numbers rest) ≤ 1 =
      subst (λ n. n ≤ 1) (copies-append k (node_numbers first) (member_numbers rest)) once in
      let outer : copies k (member_numbers rest) ≤ 1 = omega arith in
      elim (cases_eq (copies k (node_numbers first)) 0) [
        | inl none ↦
            with_member_goes (along up k) s (Stays (IsFit b)) (Stays IsRight) (Stays IsRight) t (λ now. read_members w rest now)
            (node_keeps up k (IsFit b) (fit_lasts b) w first counts s none q)
            (λ now here. members_right up k id w rest t.counts now under below outer here)
            (λ more end now here. here)
        | inr some ↦
            let inner : copies k (node_numbers first) ≤ 1 = omega arith in
            let gone : copies k (member_numbers rest) ≡ 0 = omega arith in
            with_member_goes (along up k) s (Stays IsRight) (Stays IsRight) (Stays IsRight) t (λ now. read_members w rest now)
            (node_right up k w first counts s inside inner (fit_at up k (number_of first) id s parent q))
            (λ now here. members_keep up k IsRight right_lasts w rest t.counts now gone here)
            (λ more end now here. here)
      ]
