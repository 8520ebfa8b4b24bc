-- No leak has a halting kind: a note of one ends its try, so that the notes of a try that goes on have none.
use Rattle.std.proofs.Common.{◌≡◌, ℕ, suc, ◌-◌, Bool, true, false, ◌==◌, bit_or, bit_and, refl, ap, arith}
use Rattle.std.proofs.lemmas.Bool.{eqb-true}
use Rattle.std.proofs.lemmas.Nat.Bits.{bit_at_or, bit_at_and, bit_at-zero, same_from_bits}
use Rattle.std.specs.Int.{bit_at}
use Rattle.cd_tree.specs.declared.domain.NodeId.{NodeId}
use Rattle.cd_tree.specs.KindSets.{no_kinds, kinds_without}
use Rattle.cd_tree.specs.Scripts.{struck, kinds_of}
use Rattle.cd_tree.specs.Domains.{Node, Body, Members, node, stop, run, group, no_more, member}
use Rattle.cd_tree.specs.Reading.{Case, Counts, Told, Blame, TryEnd, NodeEnd, Done, GroupEnd, AllDone, SomeEscalated, Try, stopped, begun, halted, unless_halted, arrived, judged, detected, group_ended, behind_group, read_node, read_points, read_members}
use Rattle.cd_tree.proofs.EndKinds.{TryKinds, NodeKinds, GroupKinds, IsGathered, joined_kinds, tries_kinds}

-- none of these kinds halts
abbrev pub Quiet : ℕ → ℕ → Type 0
Quiet halts kinds = bit_and kinds halts ≡ no_kinds

-- nothing is said of what is over
abbrev Anything : ℕ → Type 0
Anything kinds = Unit {0}

abbrev QuietTry : ℕ → TryEnd → Type 0
QuietTry halts end = TryKinds (Quiet halts) Anything end

abbrev pub QuietNode : ℕ → NodeEnd → Type 0
QuietNode halts end = NodeKinds (Quiet halts) Anything end

abbrev pub QuietGroup : ℕ → GroupEnd → Type 0
QuietGroup halts end = GroupKinds (Quiet halts) Anything end

pub none_is_quiet : (halts : ℕ) → Quiet halts no_kinds
none_is_quiet halts = same_from_bits _ _ (λ i. omega (arith, bit_at_and 0 halts i, bit_at-zero i))

pub or_is_quiet : (halts a b : ℕ) → Quiet halts a → Quiet halts b → Quiet halts (bit_or a b)
or_is_quiet halts a b p q =
    same_from_bits _ _ (λ i.
    let here : bit_at (bit_and a halts) i ≡ bit_at 0 i = ap (λ n. bit_at n i) p in
    let there : bit_at (bit_and b halts) i ≡ bit_at 0 i = ap (λ n. bit_at n i) q in
    omega (arith, bit_at_and (bit_or a b) halts i, bit_at_or a b i, bit_at_and a halts i, bit_at_and b halts i, bit_at-zero i))

gathered_quiet : (halts : ℕ) → IsGathered (Quiet halts)
gathered_quiet halts = record { none = none_is_quiet halts; both = λ a b p q. or_is_quiet halts a b p q }

gathered_anything : IsGathered Anything
gathered_anything = record { none = tt; both = λ a b p q. tt }

halted_quiet : (all : ℕ) (h : Try) (halts notes : ℕ) (counts : Counts) (b : Bool) → QuietTry all (halted h halts notes counts b).answer
halted_quiet all h halts notes counts true = tt
halted_quiet all h halts notes counts false = tt

-- where these kinds do not halt the try goes on
unless_halted_quiet : (all : ℕ) (h : Try) (halts notes : ℕ) (counts : Counts) (next : ℕ → Told TryEnd) (b : Bool)
    → (b ≡ true → QuietTry all (next notes).answer) → QuietTry all (unless_halted h halts notes counts next b).answer
unless_halted_quiet all h halts notes counts next true go = go refl
unless_halted_quiet all h halts notes counts next false go =
    halted_quiet all h halts notes counts (kinds_without halts h.detects == no_kinds)

arrived_quiet : (w : Case) (h : Try) (point notes : ℕ) (counts : Counts) (next : ℕ → Told TryEnd)
    → Quiet w.halts notes → ((seen : ℕ) → Quiet w.halts seen → QuietTry w.halts (next seen).answer)
    → QuietTry w.halts (arrived w h point notes counts next).answer
arrived_quiet w h point notes counts next quiet go =
    let kinds : ℕ = kinds_of (struck w.faults h.node h.begin point) in
    unless_halted_quiet w.halts h (bit_and kinds w.halts) (bit_or notes kinds) counts next (bit_and kinds w.halts == no_kinds)
    (λ none. go (bit_or notes kinds)
    (or_is_quiet w.halts notes kinds quiet (eqb-true (bit_and kinds w.halts) no_kinds none)))

judged_quiet : (all : ℕ) (id : NodeId) (notes found : ℕ) (b : Bool) → Quiet all notes → QuietTry all (judged id notes found b)
judged_quiet all id notes found true quiet = quiet
judged_quiet all id notes found false quiet = tt

stopped_quiet : (all : ℕ) (cause : Blame) (over : ℕ) (b : Bool) → QuietTry all (stopped cause over b)
stopped_quiet all cause over true = tt
stopped_quiet all cause over false = tt

group_ended_quiet : (all : ℕ) (h : Try) (notes : ℕ) (counts : Counts) (end : GroupEnd) (next : ℕ → Counts → Told TryEnd)
    → Quiet all notes → QuietGroup all end → ((seen : ℕ) → Quiet all seen → QuietTry all (next seen counts).answer)
    → QuietTry all (group_ended h notes counts end next).answer
group_ended_quiet all h notes counts (AllDone leaks) next quiet leak go =
    go (bit_or notes leaks) (or_is_quiet all notes leaks quiet leak)
group_ended_quiet all h notes counts (SomeEscalated cause over) next quiet leak go =
    stopped_quiet all cause (kinds_without over h.detects) (kinds_without over h.detects == no_kinds)

mutual
  unfolding read_node

  pub node_quiet : (w : Case) (d : Node) (counts : Counts) → QuietNode w.halts (read_node w d counts).answer
  node_quiet w (node id domain body) counts =
      tries_kinds (Quiet w.halts) Anything gathered_anything (domain.retry - 1) id domain
      (λ now. begun id domain false now
      (λ begin more. read_points w body (record { node = id; detects = domain.detects; begin = begin }) 0 no_kinds more))
      (begun id domain true counts
      (λ begin more. read_points w body (record { node = id; detects = domain.detects; begin = begin }) 0 no_kinds more))
      (λ now. points_quiet w body _ 0 no_kinds _ (none_is_quiet w.halts))
      (points_quiet w body _ 0 no_kinds _ (none_is_quiet w.halts))

  points_quiet : (w : Case) (body : Body) (h : Try) (point notes : ℕ) (counts : Counts) → Quiet w.halts notes
      → QuietTry w.halts (read_points w body h point notes counts).answer
  points_quiet w stop h point notes counts quiet =
      arrived_quiet w h point notes counts (λ seen. detected h seen counts) quiet
      (λ seen still. judged_quiet w.halts h.node seen (bit_and seen h.detects) (bit_and seen h.detects == no_kinds) still)
  points_quiet w (run op rest) h point notes counts quiet =
      arrived_quiet w h point notes counts (λ seen. read_points w rest h (suc point) seen counts) quiet
      (λ seen still. points_quiet w rest h (suc point) seen counts still)
  points_quiet w (group members rest) h point notes counts quiet =
      let t : Told GroupEnd = read_members w members counts in
      arrived_quiet w h point notes counts
      (λ seen. behind_group h seen t (λ all more. read_points w rest h (suc point) all more)) quiet
      (λ seen still. group_ended_quiet w.halts h seen t.counts t.answer
      (λ all more. read_points w rest h (suc point) all more) still (members_quiet w members counts)
      (λ all quiet_all. points_quiet w rest h (suc point) all t.counts quiet_all))

  pub members_quiet : (w : Case) (members : Members) (counts : Counts) → QuietGroup w.halts (read_members w members counts).answer
  members_quiet w no_more counts = none_is_quiet w.halts
  members_quiet w (member first rest) counts =
      let t : Told NodeEnd = read_node w first counts in
      joined_kinds (Quiet w.halts) Anything (gathered_quiet w.halts) gathered_anything t.answer (read_members w rest t.counts).answer
      (node_quiet w first counts) (members_quiet w rest t.counts)

pub no_leak_halts : (w : Case) (d : Node) (counts : Counts) (leak : ℕ) → (read_node w d counts).answer ≡ Done leak
    → bit_and leak w.halts ≡ no_kinds
no_leak_halts w d counts leak is = rw is at (node_quiet w d counts)
