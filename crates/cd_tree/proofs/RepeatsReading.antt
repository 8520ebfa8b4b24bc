-- The whole reading: no more tries are repeated than faults strike, and no entry of the script strikes twice.
use Rattle.std.proofs.Common.{ℕ, suc, ◌+◌, ◌-◌, ◌≤◌, true, false, length, arith}
use Rattle.cd_tree.specs.KindSets.{no_kinds}
use Rattle.cd_tree.specs.Domains.{Node, Body, Members, node, stop, run, group, no_more, member, root_of}
use Rattle.cd_tree.specs.Reading.{Case, Counts, counted, no_begins, Told, NodeEnd, GroupEnd, Try, detected, behind_group, read_node, read_points, read_members, read_try}
use Rattle.cd_tree.specs.Record.{case_of, reading}
use Rattle.cd_tree.specs.Laws.{RepeatsAreAtMostStrikes, StrikesAreAtMostEntries, RepeatsAreAtMostEntries}
use Rattle.cd_tree.proofs.Potential.{potential, potential-le, due}
use Rattle.cd_tree.proofs.RepeatsParts.{any, try_cost, node_cost, group_cost, Spends, arrived_spends, detected_spends, behind_group_spends, begun_spends, tries_spends, with_member_spends}

mutual
  unfolding read_node read_points read_members

  pub node_spends : (w : Case) (d : Node) (counts : Counts) →
      Spends w.faults node_cost 0 (potential w.faults counts) (read_node w d counts)
  node_spends w (node id domain body) counts =
      let starts : ℕ → Try = λ begin. record { node = id; detects = domain.detects; begin = begin } in
      let on = λ (begin : ℕ) (more : Counts). points_spends w body (starts begin) 0 no_kinds more in
      tries_spends w.faults (domain.retry - 1) id domain (λ now. read_try w id domain body false now)
      (read_try w id domain body true counts) (potential w.faults counts)
      (λ now. begun_spends w.faults id domain false now (λ begin more. read_points w body (starts begin) 0 no_kinds more)
      (on (now id.0 + 1) (counted id.0 now)))
      (begun_spends w.faults id domain true counts (λ begin more. read_points w body (starts begin) 0 no_kinds more)
      (on (counts id.0 + 1) (counted id.0 counts)))

  points_spends : (w : Case) (body : Body) (h : Try) (point notes : ℕ) (counts : Counts) →
      Spends w.faults try_cost (any notes) (due w.faults h.node h.begin point + potential w.faults counts)
      (read_points w body h point notes counts)
  points_spends w stop h point notes counts =
      arrived_spends w h point notes counts (λ seen. detected h seen counts)
      (λ seen. detected_spends w.faults h seen counts
      (due w.faults h.node h.begin (suc point) + potential w.faults counts) (omega arith))
  points_spends w (run op rest) h point notes counts =
      arrived_spends w h point notes counts (λ seen. read_points w rest h (suc point) seen counts)
      (λ seen. points_spends w rest h (suc point) seen counts)
  points_spends w (group members rest) h point notes counts =
      let t : Told GroupEnd = read_members w members counts in
      arrived_spends w h point notes counts
      (λ seen. behind_group h seen t (λ all more. read_points w rest h (suc point) all more))
      (λ seen. behind_group_spends w.faults h seen counts t (λ all more. read_points w rest h (suc point) all more)
      (due w.faults h.node h.begin (suc point)) (members_spends w members counts)
      (λ all. points_spends w rest h (suc point) all t.counts))

  members_spends : (w : Case) (members : Members) (counts : Counts) →
      Spends w.faults group_cost 0 (potential w.faults counts) (read_members w members counts)
  members_spends w no_more counts = record { repeats = omega arith; strikes = omega arith }
  members_spends w (member first rest) counts =
      with_member_spends w.faults (read_node w first counts) (λ now. read_members w rest now) (potential w.faults counts)
      (node_spends w first counts) (members_spends w rest (read_node w first counts).counts)

pub repeats-le-strikes : RepeatsAreAtMostStrikes
repeats-le-strikes w d counts =
    let t : Told NodeEnd = read_node w d counts in
    let h : t.past.repeats + node_cost t.answer ≤ 0 + t.past.strikes = (node_spends w d counts).repeats in
    omega arith

pub strikes-le-entries : StrikesAreAtMostEntries
strikes-le-entries w d counts =
    let t : Told NodeEnd = read_node w d counts in
    let h : t.past.strikes + potential w.faults t.counts ≤ potential w.faults counts = (node_spends w d counts).strikes in
    let all : potential w.faults counts ≤ length w.faults = potential-le w.faults counts in
    omega arith

pub repeats-le-entries : RepeatsAreAtMostEntries
repeats-le-entries tree faults =
    let t : Told NodeEnd = reading tree faults in
    let r : t.past.repeats ≤ t.past.strikes = repeats-le-strikes (case_of tree faults) (root_of tree.domains) no_begins in
    let s : t.past.strikes ≤ length faults = strikes-le-entries (case_of tree faults) (root_of tree.domains) no_begins in
    omega arith
