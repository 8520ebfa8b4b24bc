-- Along the part of the record that belongs to other domains, the state of a domain keeps what lasts.
use Rattle.std.proofs.Common.{◌≡◌, ℕ, suc, ◌+◌, ◌-◌, Bool, true, false, cond, ◌==◌, Option, refl, sym, ◌∙◌, arith}
use Rattle.cd_tree.specs.declared.domain.NodeId.{NodeId}
use Rattle.cd_tree.specs.declared.domain.Domain.{Domain}
use Rattle.cd_tree.specs.declared.event.Event.TheVariants.{Begin}
use Rattle.cd_tree.specs.KindSets.{no_kinds}
use Rattle.cd_tree.specs.Domains.{Node, Body, Members, node, stop, run, group, no_more, member, node_numbers, body_numbers, member_numbers}
use Rattle.cd_tree.specs.Reading.{Case, Counts, counted, Told, Blame, NodeEnd, GroupEnd, Try, detected, behind_group, read_node, read_points, read_members, read_try}
use Rattle.cd_tree.specs.CountLaws.{copies}
use Rattle.cd_tree.proofs.Numbers.{copies-append}
use Rattle.cd_tree.proofs.BeginsParts.{Goes, Exits, Stops, Leaves, arrived_goes, detected_goes, behind_group_goes, begun_goes, tries_goes, with_member_goes}
use Rattle.cd_tree.proofs.BeginsStates.{State, is_number, along, along_quiet, Lasts, other_begins, other_finds, other_completes, other_escalates}

-- whatever the counts and the answer
abbrev pub Stays : {A : Type 0} → (State → Type 0) → Counts → A → State → Type 0
Stays Q counts answer s = Q s

-- the first of some numbers is another, and so are the rest
pub not_here : (k i more : ℕ) → cond (k == i) 1 0 + more ≡ 0 → ((k == i) ≡ false) × (more ≡ 0)
not_here k i more = by (k == i)
  where
    by : (b : Bool) → cond b 1 0 + more ≡ 0 → (b ≡ false) × (more ≡ 0)
    by true none = absurd (omega arith)
    by false none = (refl, omega arith)

other_exits : (up : ℕ → Option NodeId) (k : ℕ) (Q : State → Type 0) → Lasts Q → (s : State) (h : Try) (counts : Counts) → Q s
    → Exits (along up k) s (Stays Q) h counts
other_exits up k Q lasts s h counts q =
    record {
      passes = λ notes. q;
      fails = λ kinds some. other_finds Q lasts kinds (k == h.node.0) s q;
      breaks = λ cause over. q;
    }

pub other_stops : (Q : State → Type 0) (s : State) (cause : Blame) (counts : Counts) → Q s → Stops s (Stays Q) cause counts
other_stops Q s cause counts q = record { fails = q; breaks = λ over. q }

other_leaves : (up : ℕ → Option NodeId) (k : ℕ) (Q : State → Type 0) → Lasts Q → (id : NodeId) → (k == id.0) ≡ false
    → Leaves (along up k) (Stays Q) (Stays Q) id
other_leaves up k Q lasts id other =
    record {
      completes = λ counts leak s q. other_completes Q (k == id.0) s other q;
      gives_up = λ counts cause s q. other_escalates Q lasts (k == id.0) (is_number (up id.0) k) s other q;
      breaks = λ counts cause over s q. other_escalates Q lasts (k == id.0) (is_number (up id.0) k) s other q;
    }

-- a domain from its begin to its end, where each of its tries keeps what lasts
pub tries_keep : (up : ℕ → Option NodeId) (k : ℕ) (Q : State → Type 0) → Lasts Q → (End : Counts → NodeEnd → State → Type 0)
    (w : Case) (id : NodeId) (domain : Domain) (body : Body) (counts : Counts) (s : State) → (k == id.0) ≡ false
    → Leaves (along up k) (Stays Q) End id
    → ((h : Try) (now : Counts) (x : State) → (k == h.node.0) ≡ false → Q x → Goes (along up k) x (Stays Q) (read_points w body h 0 no_kinds now))
    → Q s → Goes (along up k) s End (read_node w (node id domain body) counts)
unfolding read_node
tries_keep up k Q lasts End w id domain body counts s other leaves keeps q =
    let starts : ℕ → Try = λ begin. record { node = id; detects = domain.detects; begin = begin } in
    let one_try : (first : Bool) (now : Counts) (x : State) → Q x → Goes (along up k) x (Stays Q) (read_try w id domain body first now) =
    λ first now x h.
    begun_goes (along up k) (along_quiet up k) x (Stays Q) id domain first now
    (λ begin more. read_points w body (starts begin) 0 no_kinds more)
    (keeps (starts (now id.0 + 1)) (counted id.0 now) (along up k x (Begin id (now id.0 + 1))) other
    (other_begins Q lasts (k == id.0) (is_number (up k) id.0) x other h)) in
    tries_goes (along up k) (along_quiet up k) s (Stays Q) End (domain.retry - 1) id domain
    (λ now. read_try w id domain body false now) (read_try w id domain body true counts)
    leaves (λ now x cause h. one_try false now x h) (one_try true counts s q)

mutual
  unfolding read_node read_points read_members

  pub node_keeps : (up : ℕ → Option NodeId) (k : ℕ) (Q : State → Type 0) → Lasts Q → (w : Case) (d : Node) (counts : Counts) (s : State)
      → copies k (node_numbers d) ≡ 0 → Q s → Goes (along up k) s (Stays Q) (read_node w d counts)
  node_keeps up k Q lasts w (node id domain body) counts s none q =
      let two : ((k == id.0) ≡ false) × (copies k (body_numbers body) ≡ 0) = not_here k id.0 (copies k (body_numbers body)) none in
      tries_keep up k Q lasts (Stays Q) w id domain body counts s two.0 (other_leaves up k Q lasts id two.0)
      (λ h now x other here. points_keep up k Q lasts w body h 0 no_kinds now x other two.1 here) q

  pub points_keep : (up : ℕ → Option NodeId) (k : ℕ) (Q : State → Type 0) → Lasts Q → (w : Case) (body : Body) (h : Try) (point notes : ℕ)
      (counts : Counts) (s : State) → (k == h.node.0) ≡ false → copies k (body_numbers body) ≡ 0 → Q s
      → Goes (along up k) s (Stays Q) (read_points w body h point notes counts)
  points_keep up k Q lasts w stop h point notes counts s other none q =
      arrived_goes (along up k) (along_quiet up k) s (Stays Q) w h point notes counts (λ seen. detected h seen counts)
      (other_exits up k Q lasts s h counts q)
      (λ seen. detected_goes (along up k) s (Stays Q) h seen counts (other_exits up k Q lasts s h counts q))
  points_keep up k Q lasts w (run op rest) h point notes counts s other none q =
      arrived_goes (along up k) (along_quiet up k) s (Stays Q) w h point notes counts
      (λ seen. read_points w rest h (suc point) seen counts)
      (other_exits up k Q lasts s h counts q)
      (λ seen. points_keep up k Q lasts w rest h (suc point) seen counts s other none q)
  points_keep up k Q lasts w (group members rest) h point notes counts s other none q =
      let t : Told GroupEnd = read_members w members counts in
      let sum : copies k (member_numbers members) + copies k (body_numbers rest) ≡ 0 =
      sym (copies-append k (member_numbers members) (body_numbers rest)) ∙ none in
      let inner : copies k (member_numbers members) ≡ 0 = omega arith in
      let outer : copies k (body_numbers rest) ≡ 0 = omega arith in
      arrived_goes (along up k) (along_quiet up k) s (Stays Q) w h point notes counts
      (λ seen. behind_group h seen t (λ all more. read_points w rest h (suc point) all more))
      (other_exits up k Q lasts s h counts q)
      (λ seen.
      behind_group_goes (along up k) s (Stays Q) (Stays Q) h seen t (λ all more. read_points w rest h (suc point) all more)
      (members_keep up k Q lasts w members counts s inner q)
      (λ now leaks here all. points_keep up k Q lasts w rest h (suc point) all t.counts now other outer here)
      (λ now cause over here. other_stops Q now cause t.counts here))

  pub members_keep : (up : ℕ → Option NodeId) (k : ℕ) (Q : State → Type 0) → Lasts Q → (w : Case) (members : Members) (counts : Counts)
      (s : State) → copies k (member_numbers members) ≡ 0 → Q s → Goes (along up k) s (Stays Q) (read_members w members counts)
  members_keep up k Q lasts w no_more counts s none q = record { ends = q }
  members_keep up k Q lasts w (member first rest) counts s none q =
      let t : Told NodeEnd = read_node w first counts in
      let sum : copies k (node_numbers first) + copies k (member_numbers rest) ≡ 0 =
      sym (copies-append k (node_numbers first) (member_numbers rest)) ∙ none in
      let one : copies k (node_numbers first) ≡ 0 = omega arith in
      let others : copies k (member_numbers rest) ≡ 0 = omega arith in
      with_member_goes (along up k) s (Stays Q) (Stays Q) (Stays Q) t (λ now. read_members w rest now)
      (node_keeps up k Q lasts w first counts s one q)
      (λ now here. members_keep up k Q lasts w rest t.counts now others here)
      (λ more end now here. here)
