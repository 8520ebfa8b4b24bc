-- How many events a domain's reading tells: as many as it weighs, and as many again for each repeat.
use Rattle.std.proofs.Common.{ℕ, suc, ◌+◌, ◌-◌, true, false, length, arith}
use Rattle.cd_tree.specs.KindSets.{no_kinds}
use Rattle.cd_tree.specs.Domains.{Node, Body, Members, node, stop, run, group, no_more, member}
use Rattle.cd_tree.specs.Reading.{Case, Counts, counted, Told, GroupEnd, TryEnd, Try, detected, behind_group, read_node, read_points, read_members, read_try}
use Rattle.cd_tree.specs.RecordLengths.{node_weight, body_weight, members_weight, EventsGrowByRepeats}
use Rattle.cd_tree.proofs.ShortParts.{IsShort, short_more, arrived_short, detected_short, behind_group_short, begun_short, tries_short, with_member_short}

mutual
  unfolding read_node read_points read_members

  node_short : (w : Case) (d : Node) (counts : Counts) → IsShort (node_weight d) (read_node w d counts)
  node_short w (node id domain body) counts =
      let starts : ℕ → Try = λ begin. record { node = id; detects = domain.detects; begin = begin } in
      let once : ℕ = 1 + length domain.entries + body_weight body in
      let on = λ (begin : ℕ) (more : Counts). points_short w body (starts begin) 0 no_kinds more in
      short_more (once + (1 + length domain.entries)) (node_weight (node id domain body)) (read_node w (node id domain body) counts)
      (omega arith)
      (tries_short once (domain.retry - 1) id domain (λ now. read_try w id domain body false now) (read_try w id domain body true counts)
      (λ now. begun_short (body_weight body) id domain false now
      (λ begin more. read_points w body (starts begin) 0 no_kinds more) (on (now id.0 + 1) (counted id.0 now)))
      (begun_short (body_weight body) id domain true counts
      (λ begin more. read_points w body (starts begin) 0 no_kinds more) (on (counts id.0 + 1) (counted id.0 counts))))

  points_short : (w : Case) (body : Body) (h : Try) (point notes : ℕ) (counts : Counts)
      → IsShort (body_weight body) (read_points w body h point notes counts)
  points_short w stop h point notes counts =
      arrived_short 0 w h point notes counts (λ seen. detected h seen counts) (λ seen. detected_short h seen counts)
  points_short w (run op rest) h point notes counts =
      arrived_short (body_weight rest) w h point notes counts (λ seen. read_points w rest h (suc point) seen counts)
      (λ seen. short_more (body_weight rest) (2 + body_weight rest) (read_points w rest h (suc point) seen counts) (omega arith)
      (points_short w rest h (suc point) seen counts))
  points_short w (group members rest) h point notes counts =
      let t : Told GroupEnd = read_members w members counts in
      let both : ℕ = members_weight members + body_weight rest in
      let next : ℕ → Counts → Told TryEnd = λ all more. read_points w rest h (suc point) all more in
      arrived_short both w h point notes counts (λ seen. behind_group h seen t next)
      (λ seen. short_more both (2 + both) (behind_group h seen t next) (omega arith)
      (behind_group_short (members_weight members) (body_weight rest) h seen t next (members_short w members counts)
      (λ all. points_short w rest h (suc point) all t.counts)))

  members_short : (w : Case) (members : Members) (counts : Counts) → IsShort (members_weight members) (read_members w members counts)
  members_short w no_more counts = record { few = omega arith }
  members_short w (member first rest) counts =
      with_member_short (node_weight first) (members_weight rest) (read_node w first counts) (λ now. read_members w rest now)
      (node_short w first counts) (members_short w rest (read_node w first counts).counts)

pub events-le-weight : EventsGrowByRepeats
events-le-weight w d counts = (node_short w d counts).few
