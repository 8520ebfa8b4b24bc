-- No count falls: what each part of the reading does to the counts.
use Rattle.std.proofs.Common.{ℕ, zero, suc, ◌+◌, ◌-◌, ◌≤◌, ◌==◌, Bool, true, false, if◌then◌else◌, bit_or, bit_and, arith, le_refl}
use Rattle.cd_tree.specs.KindSets.{no_kinds, kinds_without}
use Rattle.cd_tree.specs.declared.domain.NodeId.{NodeId}
use Rattle.cd_tree.specs.declared.domain.Domain.{Domain}
use Rattle.cd_tree.specs.declared.domain.Item.{Item}
use Rattle.cd_tree.specs.declared.domain.Item.TheVariants.{Run, Group}
use Rattle.cd_tree.specs.Scripts.{struck, kinds_of}
use Rattle.cd_tree.specs.Domains.{Node, Body, Members, node, stop, run, group, no_more, member, members_by}
use Rattle.cd_tree.specs.Reading.{Case, Counts, counted, Told, TryEnd, Passed, Failed, Broken, NodeEnd, GroupEnd, AllDone, SomeEscalated, Try, halted, unless_halted, arrived, detected, group_ended, behind_group, ended, unless_failed, tries, read_node, read_points, read_members, read_try}
use Rattle.cd_reading.specs.Walk.{item_read, item_counts}

-- no count is less than before
pub record Rises (before now : Counts) : Type 0 where
  pub each : (n : ℕ) → before n ≤ now n

pub rises_same : (counts : Counts) → Rises counts counts
rises_same counts = record { each = λ n. le_refl (counts n) }

pub rises_on : (before between now : Counts) → Rises before between → Rises between now → Rises before now
rises_on before between now p q = record { each = λ n. omega (arith, p.each n, q.each n) }

halted_rises : (before : Counts) (h : Try) (halts notes : ℕ) (counts : Counts) (found : Bool) → Rises before counts
    → Rises before (halted h halts notes counts found).counts
halted_rises before h halts notes counts true so = so
halted_rises before h halts notes counts false so = so

unless_halted_rises : (h : Try) (halts notes : ℕ) (counts : Counts) (next : ℕ → Told TryEnd) (none : Bool) → Rises counts (next notes).counts
    → Rises counts (unless_halted h halts notes counts next none).counts
unless_halted_rises h halts notes counts next true on = on
unless_halted_rises h halts notes counts next false on =
    halted_rises counts h halts notes counts (kinds_without halts h.detects == no_kinds) (rises_same counts)

arrived_rises : (w : Case) (h : Try) (point notes : ℕ) (counts : Counts) (next : ℕ → Told TryEnd)
    → ((seen : ℕ) → Rises counts (next seen).counts) → Rises counts (arrived w h point notes counts next).counts
arrived_rises w h point notes counts next on =
    let kinds : ℕ = kinds_of (struck w.faults h.node h.begin point) in
    unless_halted_rises h (bit_and kinds w.halts) (bit_or notes kinds) counts next (bit_and kinds w.halts == no_kinds) (on (bit_or notes kinds))

group_ended_rises : (before : Counts) (h : Try) (notes : ℕ) (counts : Counts) (end : GroupEnd) (next : ℕ → Counts → Told TryEnd)
    → Rises before counts → ((seen : ℕ) → Rises before (next seen counts).counts) → Rises before (group_ended h notes counts end next).counts
group_ended_rises before h notes counts (AllDone leaks) next so on = on (bit_or notes leaks)
group_ended_rises before h notes counts (SomeEscalated cause over) next so on = so

behind_group_rises : (before : Counts) (h : Try) (notes : ℕ) (t : Told GroupEnd) (next : ℕ → Counts → Told TryEnd) → Rises before t.counts
    → ((seen : ℕ) → Rises t.counts (next seen t.counts).counts) → Rises before (behind_group h notes t next).counts
behind_group_rises before h notes t next so on =
    group_ended_rises before h notes t.counts t.answer next so (λ seen. rises_on before t.counts (next seen t.counts).counts so (on seen))

pub counted_rises : (id : ℕ) (counts : Counts) → Rises counts (counted id counts)
counted_rises id counts = record { each = λ n. by n (n == id) }
  where
    by : (n : ℕ) (b : Bool) → counts n ≤ (if b then counts n + 1 else counts n)
    by n true = omega arith
    by n false = le_refl (counts n)

ended_rises : (before : Counts) (id : NodeId) (domain : Domain) (t : Told TryEnd) (end : TryEnd) → Rises before t.counts
    → Rises before (ended id domain t end).counts
ended_rises before id domain t (Passed leak) so = so
ended_rises before id domain t (Failed cause) so = so
ended_rises before id domain t (Broken cause over) so = so

unless_failed_rises : (before : Counts) (id : NodeId) (domain : Domain) (t : Told TryEnd) (end : TryEnd) (next : Counts → Told NodeEnd)
    → Rises before t.counts → Rises before (next t.counts).counts → Rises before (unless_failed id domain t end next).counts
unless_failed_rises before id domain t (Passed leak) next so on = so
unless_failed_rises before id domain t (Failed cause) next so on = on
unless_failed_rises before id domain t (Broken cause over) next so on = so

-- where a try is followed by others, no count falls behind it
pub tries_rise : (spare : ℕ) (id : NodeId) (domain : Domain) (again : Counts → Told TryEnd) (t : Told TryEnd)
    → ((now : Counts) → Rises now (again now).counts) → Rises t.counts (tries spare id domain again t).counts
tries_rise zero id domain again t on = ended_rises t.counts id domain t t.answer (rises_same t.counts)
tries_rise (suc spare) id domain again t on =
    let next : Told TryEnd = again t.counts in
    unless_failed_rises t.counts id domain t t.answer (λ now. tries spare id domain again (again now)) (rises_same t.counts)
    (rises_on t.counts next.counts (tries spare id domain again next).counts (on t.counts) (tries_rise spare id domain again next on))

mutual
  unfolding read_node read_points read_members

  pub node_rises : (w : Case) (d : Node) (counts : Counts) → Rises counts (read_node w d counts).counts
  node_rises w (node id domain body) counts =
      let again : Counts → Told TryEnd = λ now. read_try w id domain body false now in
      let starts : ℕ → Try = λ begin. record { node = id; detects = domain.detects; begin = begin } in
      let on : (now : Counts) → Rises now (again now).counts =
      λ now. rises_on now (counted id.0 now) (again now).counts (counted_rises id.0 now)
      (points_rise w body (starts (now id.0 + 1)) 0 no_kinds (counted id.0 now)) in
      let t : Told TryEnd = read_try w id domain body true counts in
      rises_on counts t.counts (tries (domain.retry - 1) id domain again t).counts (on counts)
      (tries_rise (domain.retry - 1) id domain again t on)

  pub points_rise : (w : Case) (body : Body) (h : Try) (point notes : ℕ) (counts : Counts) → Rises counts (read_points w body h point notes counts).counts
  points_rise w stop h point notes counts =
      arrived_rises w h point notes counts (λ seen. detected h seen counts) (λ seen. rises_same counts)
  points_rise w (run op rest) h point notes counts =
      arrived_rises w h point notes counts (λ seen. read_points w rest h (suc point) seen counts)
      (λ seen. points_rise w rest h (suc point) seen counts)
  points_rise w (group members rest) h point notes counts =
      let t : Told GroupEnd = read_members w members counts in
      arrived_rises w h point notes counts (λ seen. behind_group h seen t (λ all more. read_points w rest h (suc point) all more))
      (λ seen. behind_group_rises counts h seen t (λ all more. read_points w rest h (suc point) all more)
      (members_rise w members counts) (λ all. points_rise w rest h (suc point) all t.counts))

  pub members_rise : (w : Case) (members : Members) (counts : Counts) → Rises counts (read_members w members counts).counts
  members_rise w no_more counts = rises_same counts
  members_rise w (member first rest) counts =
      rises_on counts (read_node w first counts).counts (read_members w rest (read_node w first counts).counts).counts
      (node_rises w first counts) (members_rise w rest (read_node w first counts).counts)

pub try_rises : (w : Case) (id : NodeId) (domain : Domain) (body : Body) (first : Bool) (counts : Counts)
    → Rises (counted id.0 counts) (read_try w id domain body first counts).counts
try_rises w id domain body first counts =
    points_rise w body (record { node = id; detects = domain.detects; begin = counts id.0 + 1 }) 0 no_kinds (counted id.0 counts)

-- the counts behind an item are no more than those behind what follows it
pub item_rises : (w : Case) (h : Try) (find : NodeId → _) (item : Item) (notes : ℕ) (counts : Counts) (next : ℕ → Counts → Told TryEnd)
    → ((seen : ℕ) (more : Counts) → Rises more (next seen more).counts)
    → Rises (item_counts w find item counts) (item_read w h find item notes counts next).counts
item_rises w h find (Run op) notes counts next on = on notes counts
item_rises w h find (Group ids) notes counts next on =
    let t : Told GroupEnd = read_members w (members_by find ids) counts in
    behind_group_rises t.counts h notes t next (rises_same t.counts) (λ seen. on seen t.counts)
