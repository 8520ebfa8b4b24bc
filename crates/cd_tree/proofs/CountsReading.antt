-- How far the counts of a domain's reading rise; and the whole reading: where a program's numbers are all different, no
-- count is above 1 and the entries of the script.
use Rattle.std.proofs.Common.{◌≡◌, ℕ, suc, ◌+◌, ◌-◌, ◌*◌, ◌≤◌, true, false, length, ap, arith, mul-le-mul}
use Rattle.cd_tree.specs.KindSets.{no_kinds}
use Rattle.cd_tree.specs.Domains.{Node, Body, Members, node, stop, run, group, no_more, member, root_of, node_numbers, body_numbers, member_numbers, numbers_from}
use Rattle.cd_tree.specs.Reading.{Case, Counts, counted, no_begins, Told, NodeEnd, GroupEnd, Try, detected, behind_group, read_node, read_points, read_members, read_try}
use Rattle.cd_tree.specs.Record.{case_of, reading}
use Rattle.cd_tree.specs.Laws.{CountsAreAtMostOneMoreThanEntries}
use Rattle.cd_tree.specs.CountLaws.{copies, CountsGrowByRepeats, CountsDoNotFall, MemberCountsDoNotFall}
use Rattle.cd_tree.proofs.Numbers.{copies-append, copies-at_most_one}
use Rattle.cd_tree.proofs.CountsParts.{Grows, arrived_grows, detected_grows, behind_group_grows, begun_grows, tries_grows, with_member_grows}
use Rattle.cd_tree.proofs.RepeatsReading.{repeats-le-entries}

mutual
  unfolding read_node read_points read_members

  -- a count grows by the copies of its number in a domain and below it, and by as many again for each repeat
  pub node_grows : (n : ℕ) (w : Case) (d : Node) (counts : Counts) →
      Grows n (counts n) (copies n (node_numbers d)) (read_node w d counts)
  node_grows n w (node id domain body) counts =
      let starts : ℕ → Try = λ begin. record { node = id; detects = domain.detects; begin = begin } in
      let on = λ (begin : ℕ) (more : Counts). points_grow n w body (starts begin) 0 no_kinds more in
      tries_grows n (counts n) (copies n (node_numbers (node id domain body))) (domain.retry - 1) id domain
      (λ now. read_try w id domain body false now) (read_try w id domain body true counts)
      (λ now. begun_grows n (copies n (body_numbers body)) id domain false now
      (λ begin more. read_points w body (starts begin) 0 no_kinds more) (on (now id.0 + 1) (counted id.0 now)))
      (begun_grows n (copies n (body_numbers body)) id domain true counts
      (λ begin more. read_points w body (starts begin) 0 no_kinds more) (on (counts id.0 + 1) (counted id.0 counts)))

  pub points_grow : (n : ℕ) (w : Case) (body : Body) (h : Try) (point notes : ℕ) (counts : Counts) →
      Grows n (counts n) (copies n (body_numbers body)) (read_points w body h point notes counts)
  points_grow n w stop h point notes counts =
      arrived_grows n 0 w h point notes counts (λ seen. detected h seen counts) (λ seen. detected_grows n 0 h seen counts)
  points_grow n w (run op rest) h point notes counts =
      arrived_grows n (copies n (body_numbers rest)) w h point notes counts
      (λ seen. read_points w rest h (suc point) seen counts)
      (λ seen. points_grow n w rest h (suc point) seen counts)
  points_grow n w (group members rest) h point notes counts =
      let t : Told GroupEnd = read_members w members counts in
      let inner : ℕ = copies n (member_numbers members) in
      let outer : ℕ = copies n (body_numbers rest) in
      rw (copies-append n (member_numbers members) (body_numbers rest))
      (arrived_grows n (inner + outer) w h point notes counts
      (λ seen. behind_group h seen t (λ all more. read_points w rest h (suc point) all more))
      (λ seen. behind_group_grows n inner outer h seen counts t (λ all more. read_points w rest h (suc point) all more)
      (members_grow n w members counts) (λ all. points_grow n w rest h (suc point) all t.counts)))

  pub members_grow : (n : ℕ) (w : Case) (members : Members) (counts : Counts) →
      Grows n (counts n) (copies n (member_numbers members)) (read_members w members counts)
  members_grow n w no_more counts = record { count = omega arith; least = omega arith }
  members_grow n w (member first rest) counts =
      rw (copies-append n (node_numbers first) (member_numbers rest))
      (with_member_grows n (copies n (node_numbers first)) (copies n (member_numbers rest)) counts (read_node w first counts)
      (λ now. read_members w rest now) (node_grows n w first counts)
      (members_grow n w rest (read_node w first counts).counts))

pub counts-le-repeats : CountsGrowByRepeats
counts-le-repeats w d counts n = (node_grows n w d counts).count

pub counts-do-not-fall : CountsDoNotFall
counts-do-not-fall w d counts n = (node_grows n w d counts).least

pub member-counts-do-not-fall : MemberCountsDoNotFall
member-counts-do-not-fall w members counts n = (members_grow n w members counts).least

pub counts-le-entries : CountsAreAtMostOneMoreThanEntries
counts-le-entries tree faults n h =
    let t : Told NodeEnd = reading tree faults in
    let many : ℕ = copies n (node_numbers (root_of tree.domains)) in
    let grown : t.counts n ≤ 0 + many * (1 + t.past.repeats) = (node_grows n (case_of tree faults) (root_of tree.domains) no_begins).count in
    let same : many ≡ copies n (numbers_from 0 (length tree.domains)) = ap (copies n) h.preorder in
    let once : copies n (numbers_from 0 (length tree.domains)) ≤ 1 = copies-at_most_one n 0 (length tree.domains) in
    let few : many ≤ 1 = omega arith in
    let repeats : t.past.repeats ≤ length faults = repeats-le-entries tree faults in
    let product : many * (1 + t.past.repeats) ≤ 1 * (1 + length faults) = mul-le-mul few (omega arith) in
    omega arith
