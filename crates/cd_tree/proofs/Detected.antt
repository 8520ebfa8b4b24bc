-- Where each fault's kind is declared by its domain or by one above it, what a domain leaks or leaves over is declared
-- above it: so nothing leaves the root.
use Rattle.std.proofs.Common.{◌≡◌, ℕ, suc, ◌-◌, Bool, true, false, ◌==◌, bit_or, bit_and, IsTrue, List, All, refl, ap, inl, inr}
use Rattle.std.proofs.lemmas.Bool.{eqb-true}
use Rattle.cd_tree.specs.declared.domain.NodeId.{NodeId}
use Rattle.cd_tree.specs.declared.document.Fault.{Fault}
use Rattle.cd_tree.specs.KindSets.{no_kinds, has_kind, kinds_without}
use Rattle.cd_tree.specs.Scripts.{struck, kinds_of, IsDetectable, DetectableBody, DetectableMembers, IsAccepted}
use Rattle.cd_tree.specs.Domains.{Node, Body, Members, node, stop, run, group, no_more, member, root_of}
use Rattle.cd_tree.specs.TreeModel.{TreeModel}
use Rattle.cd_tree.specs.Reading.{Case, Counts, no_begins, Told, Blame, TryEnd, NodeEnd, Done, Escalated, GroupEnd, AllDone, SomeEscalated, Try, stopped, begun, halted, unless_halted, arrived, judged, detected, group_ended, behind_group, read_node, read_points, read_members}
use Rattle.cd_tree.specs.Record.{case_of, reading}
use Rattle.cd_tree.specs.Laws.{EndsClean}
use Rattle.cd_tree.proofs.EndKinds.{TryKinds, NodeKinds, GroupKinds, IsGathered, joined_kinds, tries_kinds}
use Rattle.cd_tree.proofs.DetectedSets.{IsWithin, none_within, or_within, and_within, without_within, apart_within, within_none, struck_within}

-- what a try, a domain or a group leaks or leaves over is declared above
abbrev Above : ℕ → ℕ → Type 0
Above above kinds = IsWithin kinds above

abbrev TryWithin : ℕ → TryEnd → Type 0
TryWithin above end = TryKinds (Above above) (Above above) end

abbrev NodeWithin : ℕ → NodeEnd → Type 0
NodeWithin above end = NodeKinds (Above above) (Above above) end

abbrev GroupWithin : ℕ → GroupEnd → Type 0
GroupWithin above end = GroupKinds (Above above) (Above above) end

gathered_within : (above : ℕ) → IsGathered (Above above)
gathered_within above = record { none = none_within above; both = λ a b p q. or_within a b above p q }

-- the kinds of a domain's faults are declared by it or above it
abbrev Declared : Case → NodeId → ℕ → Type 0
Declared w id declared = All (λ (fault : Fault). fault.node.0 ≡ id.0 → IsTrue (has_kind declared fault.kind)) w.faults

halted_within : (above : ℕ) (h : Try) (halts notes : ℕ) (counts : Counts) (b : Bool)
    → IsWithin halts (bit_or above h.detects) → TryWithin above (halted h halts notes counts b).answer
halted_within above h halts notes counts true within = tt
halted_within above h halts notes counts false within = without_within halts above h.detects within

unless_halted_within : (above : ℕ) (h : Try) (halts notes : ℕ) (counts : Counts) (next : ℕ → Told TryEnd) (b : Bool)
    → IsWithin halts (bit_or above h.detects) → TryWithin above (next notes).answer
    → TryWithin above (unless_halted h halts notes counts next b).answer
unless_halted_within above h halts notes counts next true within go = go
unless_halted_within above h halts notes counts next false within go =
    halted_within above h halts notes counts (kinds_without halts h.detects == no_kinds) within

arrived_within : (w : Case) (above : ℕ) (h : Try) (point notes : ℕ) (counts : Counts) (next : ℕ → Told TryEnd)
    → Declared w h.node (bit_or above h.detects) → IsWithin notes (bit_or above h.detects)
    → ((seen : ℕ) → IsWithin seen (bit_or above h.detects) → TryWithin above (next seen).answer)
    → TryWithin above (arrived w h point notes counts next).answer
arrived_within w above h point notes counts next declared within go =
    let kinds : ℕ = kinds_of (struck w.faults h.node h.begin point) in
    let new : IsWithin kinds (bit_or above h.detects) =
    struck_within w.faults h.node h.begin point (bit_or above h.detects) declared in
    unless_halted_within above h (bit_and kinds w.halts) (bit_or notes kinds) counts next (bit_and kinds w.halts == no_kinds)
    (and_within kinds w.halts (bit_or above h.detects) new)
    (go (bit_or notes kinds) (or_within notes kinds (bit_or above h.detects) within new))

judged_within : (above : ℕ) (id : NodeId) (notes detects : ℕ) (b : Bool) → bit_and notes detects == no_kinds ≡ b
    → IsWithin notes (bit_or above detects) → TryWithin above (judged id notes (bit_and notes detects) b)
judged_within above id notes detects true is within =
    apart_within notes above detects within (eqb-true (bit_and notes detects) no_kinds is)
judged_within above id notes detects false is within = tt

stopped_within : (above : ℕ) (cause : Blame) (over : ℕ) (b : Bool) → IsWithin over above → TryWithin above (stopped cause over b)
stopped_within above cause over true within = tt
stopped_within above cause over false within = within

group_ended_within : (above : ℕ) (h : Try) (notes : ℕ) (counts : Counts) (end : GroupEnd) (next : ℕ → Counts → Told TryEnd)
    → IsWithin notes (bit_or above h.detects) → GroupWithin (bit_or above h.detects) end
    → ((seen : ℕ) → IsWithin seen (bit_or above h.detects) → TryWithin above (next seen counts).answer)
    → TryWithin above (group_ended h notes counts end next).answer
group_ended_within above h notes counts (AllDone leaks) next within leak go =
    go (bit_or notes leaks) (or_within notes leaks (bit_or above h.detects) within leak)
group_ended_within above h notes counts (SomeEscalated cause over) next within leak go =
    stopped_within above cause (kinds_without over h.detects) (kinds_without over h.detects == no_kinds)
    (without_within over above h.detects leak)

mutual
  unfolding read_node

  node_within : (w : Case) (above : ℕ) (d : Node) (counts : Counts) → IsDetectable w.faults above d
      → NodeWithin above (read_node w d counts).answer
  node_within w above (node id domain body) counts (declared, below) =
      tries_kinds (Above above) (Above above) (gathered_within above) (domain.retry - 1) id domain
      (λ now. begun id domain false now
      (λ begin more. read_points w body (record { node = id; detects = domain.detects; begin = begin }) 0 no_kinds more))
      (begun id domain true counts
      (λ begin more. read_points w body (record { node = id; detects = domain.detects; begin = begin }) 0 no_kinds more))
      (λ now. points_within w above body _ 0 no_kinds _ declared below (none_within (bit_or above domain.detects)))
      (points_within w above body _ 0 no_kinds _ declared below (none_within (bit_or above domain.detects)))

  points_within : (w : Case) (above : ℕ) (body : Body) (h : Try) (point notes : ℕ) (counts : Counts)
      → Declared w h.node (bit_or above h.detects) → DetectableBody w.faults (bit_or above h.detects) body
      → IsWithin notes (bit_or above h.detects) → TryWithin above (read_points w body h point notes counts).answer
  points_within w above stop h point notes counts declared below within =
      arrived_within w above h point notes counts (λ seen. detected h seen counts) declared within
      (λ seen still. judged_within above h.node seen h.detects (bit_and seen h.detects == no_kinds) refl still)
  points_within w above (run op rest) h point notes counts declared below within =
      arrived_within w above h point notes counts (λ seen. read_points w rest h (suc point) seen counts) declared within
      (λ seen still. points_within w above rest h (suc point) seen counts declared below still)
  points_within w above (group members rest) h point notes counts declared (of_members, below) within =
      let t : Told GroupEnd = read_members w members counts in
      arrived_within w above h point notes counts
      (λ seen. behind_group h seen t (λ all more. read_points w rest h (suc point) all more)) declared within
      (λ seen still. group_ended_within above h seen t.counts t.answer
      (λ all more. read_points w rest h (suc point) all more) still
      (members_within w (bit_or above h.detects) members counts of_members)
      (λ all within_all. points_within w above rest h (suc point) all t.counts declared below within_all))

  members_within : (w : Case) (above : ℕ) (members : Members) (counts : Counts) → DetectableMembers w.faults above members
      → GroupWithin above (read_members w members counts).answer
  members_within w above no_more counts below = none_within above
  members_within w above (member first rest) counts (of_first, of_rest) =
      let t : Told NodeEnd = read_node w first counts in
      joined_kinds (Above above) (Above above) (gathered_within above) (gathered_within above) t.answer (read_members w rest t.counts).answer
      (node_within w above first counts of_first) (members_within w above rest t.counts of_rest)

within_none_ends_clean : (end : NodeEnd) → NodeWithin no_kinds end → EndsClean end
within_none_ends_clean (Done leak) within = inl (ap Done (within_none leak within))
within_none_ends_clean (Escalated cause over) within = inr (cause, ap (Escalated cause) (within_none over within))

pub found_at_roots : (w : Case) (d : Node) (counts : Counts) → IsDetectable w.faults no_kinds d
    → EndsClean (read_node w d counts).answer
found_at_roots w d counts found = within_none_ends_clean (read_node w d counts).answer (node_within w no_kinds d counts found)

pub found_in_programs : (tree : TreeModel) (faults : List Fault) → IsAccepted tree faults → EndsClean (reading tree faults).answer
found_in_programs tree faults accepted = found_at_roots (case_of tree faults) (root_of tree.domains) no_begins accepted.found
